pub mod Read
pub mod Rows
pub mod Back
