pub mod Placing
pub mod FitRows
pub mod FitSizes
pub mod Counts
