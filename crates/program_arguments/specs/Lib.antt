pub mod Arguments
pub mod Numeral
