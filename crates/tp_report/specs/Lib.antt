pub mod Answer
pub mod Written
pub mod Lines
pub mod Faults
