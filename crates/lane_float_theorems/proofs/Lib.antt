pub mod Nearest
pub mod OnePattern
pub mod Whole
