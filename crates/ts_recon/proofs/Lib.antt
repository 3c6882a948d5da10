pub mod Why
pub mod Gathered
