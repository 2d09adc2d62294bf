pub mod Hpsys
pub mod lpsys
pub mod limits
