pub mod Pictures
pub mod Books
pub mod Larger
