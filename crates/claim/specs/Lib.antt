pub mod Claim
pub mod Moment
pub mod joined
