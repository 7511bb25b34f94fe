-- Claims: the unit, the scan of rows and of spare blocks, the rows of a stage, those behind a gap, a given element, and claims in turn.
pub mod UnitsChosen
pub mod Scans
pub mod Spares
pub mod GivenRows
pub mod Circles
pub mod EachTurn
pub mod Runs
pub mod Behind
pub mod Leans
pub mod LeanTurns
