pub mod Faults
pub mod Slots
pub mod Splices
pub mod Splits
pub mod Tables
