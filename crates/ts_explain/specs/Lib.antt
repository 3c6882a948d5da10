pub mod Faults
pub mod Lines
pub mod Pieces
pub mod Sentences
pub mod Skips
pub mod Subjects
