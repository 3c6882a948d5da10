pub mod Changes
pub mod Columns
pub mod Json
pub mod Names
pub mod Outlooks
pub mod People
pub mod Previews
pub mod Totals
