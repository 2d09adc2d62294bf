pub mod Run
pub mod Machine
