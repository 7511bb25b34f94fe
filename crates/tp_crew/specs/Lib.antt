pub mod CrewPasses
pub mod Folds
pub mod FoldStarts
pub mod Crew
pub mod Rolling
pub mod Rooms
pub mod Careers
