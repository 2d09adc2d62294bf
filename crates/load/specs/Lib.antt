pub mod Load
pub mod check
