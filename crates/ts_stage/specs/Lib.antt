pub mod Assemblies
pub mod Faults
pub mod Keeping
pub mod Parts
pub mod Stagings
