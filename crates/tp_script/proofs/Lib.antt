pub mod Devices
pub mod ScriptLemmas
pub mod TextLemmas
pub mod GrammarLemmas
pub mod LinesLemmas
pub mod FirstWords
