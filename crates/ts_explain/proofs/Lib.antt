pub mod FaultLines
pub mod Saying
