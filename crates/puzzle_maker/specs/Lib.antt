pub mod BoardTurns
pub mod FaultText
pub mod Like
pub mod Made
pub mod Plans
pub mod Refusals
