pub mod Decoding
pub mod Faults
pub mod Fields
pub mod Parts
pub mod Prints
pub mod Readers
pub mod Walks
