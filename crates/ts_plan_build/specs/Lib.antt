pub mod Blocks
pub mod Planned
pub mod Faults
pub mod Built
pub mod Resumed
