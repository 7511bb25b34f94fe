pub mod Kept
pub mod Laws
pub mod Lines
pub mod Lives
pub mod Numbers
