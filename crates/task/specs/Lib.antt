pub mod Task
pub mod bytes
pub mod look_up
