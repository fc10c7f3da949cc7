pub mod Shares
pub mod Sums
pub mod Coincide
