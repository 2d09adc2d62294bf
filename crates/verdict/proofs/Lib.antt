pub mod Passed
pub mod Usb
