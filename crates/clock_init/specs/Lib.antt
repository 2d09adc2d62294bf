pub mod Init
pub mod Told
pub mod from_core
