pub mod Texts
mod Moments
pub mod EndLines
mod EndWords
mod Seals
mod Damages
pub mod Kept
mod Histories
pub mod Crashes
mod Faults
