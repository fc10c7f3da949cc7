pub mod Cut
pub mod Stops
