pub mod Refusals
pub mod ToldTexts
pub mod NoteTexts
pub mod ElementTexts
pub mod OverviewTexts
pub mod Version
pub mod Answer
