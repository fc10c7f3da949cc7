pub mod Below
pub mod Chunks
pub mod Files
