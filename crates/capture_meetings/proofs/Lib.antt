pub mod Laws
pub mod Members
pub mod Theorems
pub mod Reading
