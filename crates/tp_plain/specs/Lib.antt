pub mod Noted
pub mod OneThread
pub mod Looks
pub mod Reached
pub mod Walks
pub mod Listings
pub mod Computed
pub mod Cancelled
