pub mod Calls
pub mod entries
pub mod kinds
