pub mod Back
pub mod Examples
pub mod Freedom
pub mod Plain
pub mod Tidy
