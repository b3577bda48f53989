pub mod CutLemmas
pub mod PartLemmas
pub mod StreamLemmas
