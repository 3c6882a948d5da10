pub mod Windows
pub mod Search
pub mod Numbers
pub mod Sinks
