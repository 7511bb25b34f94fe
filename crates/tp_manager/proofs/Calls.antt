-- What the steps of a call leave of a pass, and what those of several parts of a call leave.
pub mod CallSteps
pub mod Points
pub mod Follows
pub mod Makes
pub mod Gains
pub mod Passes
pub mod Receipts
pub mod Observed
pub mod Waits
pub mod Unseen
pub mod Fresh
pub mod Upwards
