pub mod Rest
pub mod flash
pub mod selects
