pub mod FoldStarts
pub mod CrewLemmas
pub mod Rollings
pub mod Least
pub mod Careers
