pub mod Lines
pub mod Pen
pub mod Whole
