pub mod Recorded
pub mod Definition
