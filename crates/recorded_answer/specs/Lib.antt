pub mod Answer
pub mod given
pub mod left
pub mod loads
