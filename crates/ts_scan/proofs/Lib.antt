pub mod Faults
pub mod Levels
pub mod Openings
pub mod Parts
pub mod Printed
pub mod Reading
pub mod Walks
