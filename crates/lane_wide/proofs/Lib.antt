pub mod Rounded
pub mod Saturation
