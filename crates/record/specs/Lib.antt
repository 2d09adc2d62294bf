pub mod Bytes
pub mod Refusals
pub mod Items
pub mod Four
