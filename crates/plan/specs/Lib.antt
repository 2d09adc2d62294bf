pub mod Code
pub mod Plan
pub mod codes
pub mod tests
pub mod bytes
