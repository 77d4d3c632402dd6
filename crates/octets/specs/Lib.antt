pub mod Fields
pub mod Crc
pub mod Tag
pub mod Rows
pub mod Polynomial
