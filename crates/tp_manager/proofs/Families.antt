-- Walks through the family of a request: cancels, replies, and the sets of rows that they keep.
pub mod Trees
pub mod EndSums
pub mod Aheads
pub mod RowBits
pub mod Answered
pub mod Collected
pub mod Cancels
pub mod CancelWalks
pub mod InTurn
pub mod ReplyWalks
pub mod Onward
pub mod KilledMeanwhile
pub mod Taken
