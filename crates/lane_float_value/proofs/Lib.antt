pub mod Carry
pub mod FloatOrder
pub mod Itself
pub mod Together
