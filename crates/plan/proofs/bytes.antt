pub mod WellFormed
pub mod RoundTrip
