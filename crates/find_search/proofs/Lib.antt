pub mod ListLemmas
pub mod AddingLemmas
pub mod TurnLemmas
pub mod RootLemmas
