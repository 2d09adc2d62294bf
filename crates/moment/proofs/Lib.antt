pub mod Entries
pub mod Encoded
