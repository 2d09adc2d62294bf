pub mod Request
pub mod Safe
pub mod modes
pub mod hdiv
pub mod slow
pub mod frequency
