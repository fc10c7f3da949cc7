pub mod Dot
pub mod Examples
pub mod Lane
pub mod Theorems
pub mod Whole
