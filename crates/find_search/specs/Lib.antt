pub mod Finding
pub mod Adding
pub mod Turns
pub mod Results
