pub mod CoreClock
pub mod dividers
pub mod switch
