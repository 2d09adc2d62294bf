pub mod Codes
pub mod Most
