-- Every moment of an LPSYS request from a fit head is fit: theorems about the definitions, no code.
pub mod Coded
pub mod Still
pub mod Laws
