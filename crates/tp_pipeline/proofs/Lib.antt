pub mod Careers
pub mod Audits
mod Submitting
