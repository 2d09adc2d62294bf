pub mod Call
pub mod store
pub mod clocks
pub mod with_plan
pub mod word
