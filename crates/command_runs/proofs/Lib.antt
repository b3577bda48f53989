mod DescribingLemmas
mod FindingLemmas
mod GeneratingLemmas
pub mod CensusLemmas
pub mod PictureLemmas
pub mod RunLemmas
pub mod RunningLemmas
pub mod SolvingLemmas
mod TileLemmas
pub mod TotalLemmas
