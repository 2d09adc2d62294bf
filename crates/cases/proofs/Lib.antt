pub mod Cases
pub mod Delays
pub mod Wakes
pub mod Rails
pub mod Fit
pub mod Orders
