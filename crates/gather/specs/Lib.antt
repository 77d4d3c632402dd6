pub mod Gathered
pub mod Gathering
