pub mod Sales
pub mod Shop
pub mod Quotes
pub mod Handover
