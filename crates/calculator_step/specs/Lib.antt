pub mod Done
pub mod Stepped
