pub mod Accounts
pub mod Theorems
