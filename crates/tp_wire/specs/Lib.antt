pub mod Heard
pub mod Reading
