pub mod Readings
pub mod Safe
pub mod Mute
