pub mod Acts
pub mod Client
pub mod Stands
pub mod Commands
pub mod Finals
pub mod Desks
pub mod Programs
