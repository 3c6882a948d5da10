pub mod Ranges
pub mod Children
