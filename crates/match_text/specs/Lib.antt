pub mod Lists
pub mod Puzzles
pub mod Faults
pub mod ListSpelling
pub mod PuzzleSpelling
pub mod RowLines
pub mod FaultText
