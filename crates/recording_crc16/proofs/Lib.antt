pub mod Xor
pub mod Shift
pub mod Chunk
pub mod Bytes
pub mod Examples
