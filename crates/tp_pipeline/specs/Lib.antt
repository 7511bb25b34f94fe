pub mod Payments
pub mod Books
pub mod Ends
pub mod Audits
pub mod Submitting
pub mod Stops
