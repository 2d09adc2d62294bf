pub mod Guard
pub mod tests
