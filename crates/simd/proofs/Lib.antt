pub mod Coincide
pub mod Extended
pub mod Places
