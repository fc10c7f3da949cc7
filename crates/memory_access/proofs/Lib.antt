pub mod Bytes
pub mod Coincide
pub mod Shapes
