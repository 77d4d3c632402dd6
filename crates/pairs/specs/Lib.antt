pub mod Faults
pub mod Pairs
pub mod View
pub mod Law
