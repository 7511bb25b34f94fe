-- Rows, one by one: a pass's own, drafts, spare blocks, what is read off a row, and listings of rows.
pub mod OwnRows
pub mod Submits
pub mod Drafts
pub mod Rooms
pub mod Blocks
pub mod Looks
pub mod Seeks
pub mod Finds
pub mod UnitsSeen
