pub mod PartLemmas
pub mod RowPartLemmas
pub mod ReadBackLemmas
