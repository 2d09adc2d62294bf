pub mod Booking
pub mod tests
pub mod Release
pub mod LookUp
