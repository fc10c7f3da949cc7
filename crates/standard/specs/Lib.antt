-- What a reader has to believe of the vector instructions, from the WebAssembly Core Specification 2.0 ("the standard") and
-- document 01 of the request. Over plain numbers: a vector is the number of its 128 bits, a lane of width w a number below 2^w,
-- a signed reading a whole number.
pub mod Lanes
pub mod Integer
pub mod Float
pub mod Convert
pub mod Vector
pub mod Relaxed
pub mod Memory
pub mod Instruction
pub mod Refusal
