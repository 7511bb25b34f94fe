-- Passes that look together, and the count of all elements.
pub mod Accounted
pub mod Closing
pub mod Together
pub mod Meetings
pub mod Counts
pub mod RowCounts
pub mod RoundAccounts
pub mod Stills
pub mod Lots
