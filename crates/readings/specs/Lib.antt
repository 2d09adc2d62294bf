pub mod Clocks
pub mod hclk
