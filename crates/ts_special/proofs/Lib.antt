mod Cuts
pub mod Halving
mod Joining
