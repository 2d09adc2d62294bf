pub mod Fields
pub mod Stores
