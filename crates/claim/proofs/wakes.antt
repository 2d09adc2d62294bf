-- Every moment of a call that wakes the LPSYS core and slows it down, from a fit head, is fit: theorems about the definitions, no code.
pub mod Waits
pub mod Wake
pub mod Slow
pub mod Laws
