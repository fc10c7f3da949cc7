pub mod Magnitude
pub mod Negation
pub mod Product
pub mod Signed
