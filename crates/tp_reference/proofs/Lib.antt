pub mod ListingLemmas
pub mod ReportLemmas
pub mod DrainEnds
