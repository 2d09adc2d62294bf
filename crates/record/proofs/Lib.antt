pub mod Bytes
pub mod Lists
pub mod Refusals
pub mod Items
pub mod Laid
pub mod Parts
pub mod Four
