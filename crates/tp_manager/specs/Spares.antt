-- Looks at the rows of the spare blocks, and the rows that a pass leaves behind as it draws one. In each
-- definition l are the table's limits, v is the view before, and w the view after.
use Rattle.std.specs.Prelude.{◌≢◌, ◌⊎◌, ℕ, ◌+◌, ◌<◌, ◌≤◌, List}
use Rattle.tp_model.specs.declared.event.Event.{Event}
use Rattle.tp_model.specs.declared.types.Limits.{Limits}
use Rattle.tp_model.specs.Steps.{part_rows, rows_of}
use Rattle.tp_rule.specs.Steps.{IsLeftBehind, Knows}
use Rattle.tp_rule.specs.Views.{hand}
use Rattle.tp_rule.specs.declared.view.Known.TheVariants.{RowHead}
use Rattle.tp_rule.specs.declared.view.View.{View}
use Rattle.tp_rule.specs.declared.packing.Head.{Head}
use Rattle.tp_rule.specs.declared.packing.Head.TheVariants.{Empty}
use Rattle.tp_manager.specs.CallSteps.{Looked}
use Rattle.tp_manager.specs.Marks.{WasOfUseIn}
use Rattle.tp_manager.specs.Scans.{EachRow}

-- in at most n steps, which have changed nothing in the pass but its trace, each row from `from` on and below
-- `end` was passed since what was seen before them
abbrev pub Passed : Limits → ℕ → (ℕ → List Event → List Event → Type 0) → ℕ → ℕ → View → View → Type 0
Passed l n P from end v w = Looked l n v w × EachRow P from end v.seen w.seen

-- the mark n of the spare rows is after the blocks that are drawn, which end at row `end`; or its row may
-- have been of use at a point of the steps from v to w
abbrev pub SpareRests : Limits → ℕ → ℕ → ℕ → View → View → Type 0
SpareRests l stage end n v w = (end ≤ part_rows l + n) ⊎ WasOfUseIn l stage (part_rows l + n) v w

-- the k rows from `first` on are in areas of the pass that its run has left
abbrev pub AreLeft : Limits → View → ℕ → ℕ → Type 0
AreLeft l v first k = (i : ℕ) → first ≤ i → i < first + k → (i < rows_of l) × IsLeftBehind l (hand v) i

-- the seat knows that none of them is empty
abbrev pub AreHeaded : View → ℕ → ℕ → Type 0
AreHeaded v first k = (i : ℕ) → first ≤ i → i < first + k → (head : Head) × (head ≢ Empty)
    × Knows v (RowHead i head)
