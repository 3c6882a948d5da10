pub mod Faults
pub mod Failures
pub mod Acts
pub mod Tidy
pub mod Outcomes
pub mod Sharing
pub mod Ends
pub mod Stores
