pub mod Merges
pub mod Needs
