pub mod Leavings
pub mod Memory
