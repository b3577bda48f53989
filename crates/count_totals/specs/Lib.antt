pub mod Lines
pub mod Totals
pub mod Counts
pub mod Tallies
pub mod FaultText
