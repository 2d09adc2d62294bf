pub mod Lists
pub mod Places
pub mod Holding
pub mod Kept
