pub mod Runs
pub mod Steps
pub mod Tables
pub mod Deciding
pub mod Division
