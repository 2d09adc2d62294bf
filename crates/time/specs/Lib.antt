pub mod Frequency
pub mod arithmetic
pub mod MaybeHertz
