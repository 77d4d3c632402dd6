pub mod Guarded
pub mod Guarding
