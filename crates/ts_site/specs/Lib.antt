pub mod Faults
pub mod Sites
