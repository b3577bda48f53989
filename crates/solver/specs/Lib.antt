pub mod Solving
pub mod FaultText
