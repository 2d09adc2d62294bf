pub mod Word
pub mod Codes
pub mod bytes
pub mod Numbers
