pub mod Content
pub mod Model
pub mod Faults
pub mod Calls
pub mod Torn
pub mod Cuts
pub mod Through
