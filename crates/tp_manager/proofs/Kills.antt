-- What one call does to one element: kills, releases, requeues, and how many attempts are left.
pub mod OneKill
pub mod Releases
pub mod Requeues
pub mod Tries
pub mod Moves
