pub mod Bundles
pub mod Decoding
pub mod Faults
pub mod Parts
pub mod Results
