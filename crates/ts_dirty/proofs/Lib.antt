pub mod Dirt
pub mod Upto
