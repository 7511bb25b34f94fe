-- Marks of rows of no use: how they rise, where they rest, and what they spare.
pub mod Raises
pub mod Rests
pub mod Lows
pub mod Again
pub mod Useless
