pub mod Sealed
pub mod Written
pub mod ReadBack
pub mod Limits
