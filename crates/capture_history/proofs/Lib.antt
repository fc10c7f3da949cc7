pub mod Standing
pub mod Session
pub mod Coincide
