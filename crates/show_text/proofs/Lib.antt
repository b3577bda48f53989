pub mod ListLemmas
pub mod RowLemmas
pub mod SquareLemmas
pub mod FactLemmas
pub mod PlaceLemmas
pub mod CleanLemmas
pub mod TellLemmas
pub mod LawLemmas
mod ArrangementLemmas
