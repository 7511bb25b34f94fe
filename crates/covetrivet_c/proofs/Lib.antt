pub mod Bares
pub mod CallerHandles
pub mod Answered
pub mod HomeHandles
pub mod Unmade
pub mod Uncarried
pub mod GoingOn
