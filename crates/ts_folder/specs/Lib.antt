pub mod Faults
pub mod Folders
pub mod Children
pub mod Faulty
