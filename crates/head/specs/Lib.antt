pub mod Head
pub mod Record
pub mod Encodable
pub mod from_bytes
pub mod tasks
