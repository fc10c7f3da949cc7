pub mod Definition
pub mod Shape
