pub mod Calculate
pub mod Find
pub mod Mending
pub mod Recording
