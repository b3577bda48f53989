mod WordLemmas
pub mod GivenLemmas
pub mod OrderLemmas
pub mod SolvedLemmas
pub mod PartLemmas
