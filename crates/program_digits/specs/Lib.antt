pub mod Codes
pub mod Digits
pub mod Lines
pub mod Put
