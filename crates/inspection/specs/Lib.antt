pub mod Findings
pub mod Counts
