pub mod Verdict
pub mod tests
pub mod planned
