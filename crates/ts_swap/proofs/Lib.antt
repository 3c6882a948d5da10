pub mod Counting
pub mod Moments
pub mod Moving
pub mod Outcomes
pub mod Stopped
pub mod Stops
