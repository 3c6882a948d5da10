pub mod Lent
pub mod NextRows
pub mod NoPrint
pub mod Order
pub mod PrintTexts
pub mod Rows
pub mod Stamping
pub mod Walks
