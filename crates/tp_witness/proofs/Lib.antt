pub mod Fours
