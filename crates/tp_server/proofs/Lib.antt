pub mod Books
pub mod Made
pub mod Onward
pub mod Recipes
