pub mod Exits
pub mod Numbers
