pub mod Placing
pub mod Found
pub mod FittingOptions
pub mod Progress
pub mod SearchTree
pub mod Unfinished
pub mod Outcome
pub mod Walking
