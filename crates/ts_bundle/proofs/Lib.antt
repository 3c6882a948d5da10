pub mod Titles
pub mod Refusals
pub mod Growth
pub mod Lines
pub mod NoBundle
mod Fates
