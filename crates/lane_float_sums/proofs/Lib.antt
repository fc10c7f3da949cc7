pub mod Absorb
pub mod Quotient
