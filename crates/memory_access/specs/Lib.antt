pub mod Access
pub mod AccessError
