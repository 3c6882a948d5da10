pub mod Archive
pub mod Done
pub mod Held
pub mod Laying
pub mod Parts
pub mod Placing
pub mod Steady
pub mod Taking
