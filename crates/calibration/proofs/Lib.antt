pub mod Laws
pub mod Trims
