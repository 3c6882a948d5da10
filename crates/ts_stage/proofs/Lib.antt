pub mod Assembling
pub mod Telling
