pub mod PlainClient
pub mod PlainDesks
pub mod PlainReport
pub mod PlainRunning
pub mod DrainEnds
pub mod Whole
