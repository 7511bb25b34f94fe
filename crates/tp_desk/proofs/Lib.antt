pub mod Asking
pub mod Serves
pub mod GivenClaims
pub mod Keeping
pub mod Steps
pub mod Recipes
pub mod Books
