pub mod Structure
pub mod Law
pub mod Written
