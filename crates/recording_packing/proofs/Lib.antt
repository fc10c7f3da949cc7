pub mod Blocks
pub mod Standing
pub mod Parts
pub mod Laid
