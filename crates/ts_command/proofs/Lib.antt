pub mod Entered
pub mod Lines
