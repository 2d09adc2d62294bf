pub mod Cases
pub mod TopBit
