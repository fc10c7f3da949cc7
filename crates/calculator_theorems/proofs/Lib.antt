pub mod Coincide
pub mod Examples
pub mod Marks
pub mod Turns
pub mod Unread
pub mod Writers
