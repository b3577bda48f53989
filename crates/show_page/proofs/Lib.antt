pub mod JoiningLemmas
pub mod TitleLemmas
pub mod ElementLemmas
