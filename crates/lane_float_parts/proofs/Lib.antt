pub mod Front
pub mod Upper
