pub mod Laws
pub mod Carried
