pub mod Place
pub mod Spans
