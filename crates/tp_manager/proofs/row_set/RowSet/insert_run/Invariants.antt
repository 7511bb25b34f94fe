use Rattle.std.proofs.Common.{◌↔◌, ◌⊎◌, ◌≤◌, ◌<◌, ℕ}
use Rattle.tp_manager.specs.RowSets.{Has}
use Rattle.tp_manager.proofs.row_set.RowSet.insert_run.Given as goal

abbrev pub invariant-loop-row : goal.invariant-loop-row
invariant-loop-row l = (l.first ≤ l.row) × ((i : ℕ) → Has l.self i ↔ (Has l.initial.self i ⊎ (((l.first ≤ i) × (i < l.end)) × (i < l.row))))
