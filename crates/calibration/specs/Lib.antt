pub mod Calibration
pub mod measure
pub mod search
