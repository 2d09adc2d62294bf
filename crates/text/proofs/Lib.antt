pub mod DecimalLaws
pub mod HexLaws
pub mod Putting
pub mod Taking
