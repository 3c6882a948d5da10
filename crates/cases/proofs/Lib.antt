pub mod Acts
pub mod Crossing
pub mod Steps
pub mod Working
