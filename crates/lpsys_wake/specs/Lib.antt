pub mod Wake
pub mod count
pub mod hxt48
