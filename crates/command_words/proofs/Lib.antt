pub mod BuildingLemmas
pub mod CommandLemmas
pub mod DraftLemmas
pub mod ExtentLemmas
pub mod FaultlessWalk
pub mod MisfitLemmas
pub mod PartPlaceLemmas
pub mod ProgramLemmas
