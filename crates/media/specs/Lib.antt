pub mod Landed
pub mod Images
pub mod Sectors
