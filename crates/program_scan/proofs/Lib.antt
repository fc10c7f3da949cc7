pub mod Numbers
pub mod Counting
pub mod Ink
pub mod Judging
pub mod Search
pub mod Lining
pub mod Session
