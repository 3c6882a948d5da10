pub mod Archives
pub mod Forms
pub mod NoArchive
pub mod Written
