pub mod lpsys
pub mod lpsys_entries
pub mod tasks
pub mod tasks_entries
