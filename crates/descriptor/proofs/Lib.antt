pub mod Lengths
pub mod Naming
pub mod Decoding
pub mod Conditions
pub mod Reading
