pub mod Listing
pub mod First
pub mod NumberSets
pub mod Ranges
