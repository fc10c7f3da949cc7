pub mod Eight
pub mod Table
