pub mod First
pub mod begin
pub mod warning
