pub mod Output
pub mod Tells
