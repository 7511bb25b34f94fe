pub mod HeardLemmas
pub mod ReadingLemmas
pub mod SpendLemmas
pub mod ToldLemmas
