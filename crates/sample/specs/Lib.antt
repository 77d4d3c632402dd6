pub mod Damage
pub mod Volume
