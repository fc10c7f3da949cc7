pub mod Remainder
pub mod Block
pub mod Powers
