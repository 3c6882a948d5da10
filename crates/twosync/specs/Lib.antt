pub mod Faults
pub mod Nestings
pub mod Pairs
pub mod Resolvings
pub mod Tellings
