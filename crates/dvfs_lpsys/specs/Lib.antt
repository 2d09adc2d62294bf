pub mod LpsysModes
pub mod switch
