pub mod Giving
pub mod Reading
