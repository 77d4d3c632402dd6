pub mod Tearing
pub mod Lists
pub mod Models
pub mod Cutting
