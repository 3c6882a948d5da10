pub mod Faults
pub mod Fields
pub mod Trees
pub mod Readers
pub mod Decoding
