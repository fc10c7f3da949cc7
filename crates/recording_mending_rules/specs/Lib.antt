pub mod Definition
pub mod Place
