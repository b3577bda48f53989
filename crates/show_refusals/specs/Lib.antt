pub mod Findings
pub mod Explanation
