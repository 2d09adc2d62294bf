pub mod HpsysModes
pub mod volts
pub mod switch
