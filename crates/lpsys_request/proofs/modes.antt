pub mod Divider
pub mod Laws
