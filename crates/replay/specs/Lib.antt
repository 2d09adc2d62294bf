pub mod Line
pub mod reading
