pub mod Admitting
pub mod Ending
pub mod Entries
pub mod Changed
pub mod with_plan
