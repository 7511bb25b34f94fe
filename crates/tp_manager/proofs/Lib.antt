pub mod Calls
pub mod Rows
pub mod Marks
pub mod Claims
pub mod Kills
pub mod Families
pub mod Accounts
