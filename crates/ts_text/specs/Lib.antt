pub mod Faults
pub mod Sources
pub mod Lines
pub mod Fields
