pub mod Hpsys
pub mod devices
pub mod lpsys
pub mod buses
