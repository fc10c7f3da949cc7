pub mod Scalar
pub mod Count
