pub mod Edges
pub mod Entries
pub mod Found
pub mod Lacking
pub mod Meetings
pub mod Standing
