pub mod Fit
pub mod Unfit
pub mod rail
