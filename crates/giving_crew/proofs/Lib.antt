pub mod LiveHandLemmas
pub mod LiveWorkerLemmas
pub mod LiveResultLemmas
