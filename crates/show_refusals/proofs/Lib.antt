pub mod NodeLemmas
pub mod FindingLemmas
