pub mod Specials
pub mod StandIns
