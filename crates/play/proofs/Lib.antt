pub mod Plays
pub mod Parts
pub mod Calls
pub mod Wait
