pub mod DownsLemmas
pub mod KeptLemmas
pub mod LeadLemmas
pub mod LinesLemmas
pub mod LivesLemmas
pub mod AskLemmas
pub mod OwnLemmas
pub mod ProgramLemmas
