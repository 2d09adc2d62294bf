pub mod Passed
pub mod Parts
pub mod Decoding
pub mod Encoding
pub mod Past
