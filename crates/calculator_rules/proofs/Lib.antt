pub mod Gathered
pub mod Judged
pub mod Pauses
pub mod Shapes
