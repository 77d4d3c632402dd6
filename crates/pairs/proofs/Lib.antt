pub mod Ordering
pub mod Sectors
pub mod Adding
pub mod Placing
