pub mod Examples
pub mod Bits
pub mod Distance
pub mod Positions
pub mod Refusals
pub mod Coincide
pub mod Theorems
