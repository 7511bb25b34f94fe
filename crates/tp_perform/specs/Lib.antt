pub mod Roots
pub mod Standing
pub mod Left
pub mod Performed
