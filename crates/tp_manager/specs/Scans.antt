-- Rows that a scan goes by, and the element that it takes. In each definition l are the table's limits, v is
-- the view before, and w the view after.
use Rattle.std.specs.Prelude.{◌≡◌, ◌⊎◌, ℕ, ◌+◌, ◌*◌, ◌<◌, ◌≤◌, List, [], ◌∷◌, ◌++◌}
use Rattle.std.specs.Prelude.{Some, None}
use mathlib.Core.List.{IsPrefix}
use Rattle.tp_model.specs.declared.types.Element.{Element}
use Rattle.tp_model.specs.declared.types.Limits.{Limits}
use Rattle.tp_model.specs.declared.event.Event.{Event}
use Rattle.tp_model.specs.declared.trace.TraceEntry.{TraceEntry}
use Rattle.tp_model.specs.History.{IsUnborn, element_of, status_of}
use Rattle.tp_model.specs.Passes.{HasLook, opening_of}
use Rattle.tp_model.specs.Steps.{rows_of}
use Rattle.tp_rule.specs.Views.{hand}
use Rattle.tp_rule.specs.declared.view.View.{View}
use Rattle.tp_rule.specs.Steps.{claimed, with_claim}
use Rattle.tp_manager.specs.Calls.{IsWaiting, IsBefore}
use Rattle.tp_manager.specs.CallSteps.{Stepped, with_trace}

-- an element of the stage that was born in row i in history a wasn't waiting in some history from a to b
abbrev pub PassedBy : Limits → ℕ → ℕ → List Event → List Event → Type 0
PassedBy l stage i a b = (x : Element) → element_of a i ≡ Some x → x.stage ≡ stage
    → (p : List Event) × IsPrefix a p × IsPrefix p b × ¬ IsWaiting (status_of l.attempts p i)

-- this is so of each row from `from` on and below `end`
abbrev pub EachRow : (ℕ → List Event → List Event → Type 0) → ℕ → ℕ → List Event → List Event → Type 0
EachRow Passed from end a b = (i : ℕ) → from ≤ i → i < end → Passed i a b

-- and so of each row of part c
abbrev pub OfPart : Limits → (ℕ → List Event → List Event → Type 0) → ℕ → List Event → List Event → Type 0
OfPart l Passed c = EachRow Passed (c * l.rows) (c * l.rows + l.rows)

-- at most n steps have changed nothing in the pass but its trace, one of them looks, and since that was made
-- this is so
pub record Sought (l : Limits) (n : ℕ) (Passed : List Event → List Event → Type 0) (v w : View) : Type 0 where
  pub marks : List TraceEntry
  pub walk : Stepped l n marks v w
  pub kept : hand w ≡ with_trace (hand w).trace (hand v)
  pub step : HasLook marks
  pub passed : Passed (opening_of v.seen marks) w.seen

-- no row from `from` on was looked at yet, or all from there on and below n were, and were passed since the
-- first of these looked, in at most this many steps
abbrev pub Begun : Limits → (ℕ → List Event → List Event → Type 0) → ℕ → ℕ → ℕ → View → View → Type 0
Begun l Passed steps from n v w = ((n ≡ from) × (w ≡ v)) ⊎ Sought l steps (EachRow Passed from n) v w

-- the pass has unit u chosen for the next claim, and none open
abbrev pub IsSpare : ℕ → View → Type 0
IsSpare u v = ((hand v).spare_unit ≡ Some u) × ((hand v).open_unit ≡ None)

-- in at most n steps unit u took the element e for this attempt, and that was the last of what was seen. The
-- rows from `from` on and before that of the element were passed since the first of these steps looked
pub record Took (l : Limits) (n from stage u : ℕ) (v w : View) (e : Element) (attempt : ℕ) : Type 0 where
  pub marks : List TraceEntry
  pub walk : Stepped l n marks v w
  pub kept : hand w ≡ with_trace (hand w).trace (with_claim u (claimed v u e.id attempt) (hand v))
  pub before : List Event
  pub begins : IsPrefix v.seen before
  pub ends : w.seen ≡ before ++ claimed v u e.id attempt ∷ []
  pub born : element_of w.seen e.id ≡ Some e
  pub of_stage : e.stage ≡ stage
  pub reach : from ≤ e.id
  pub step : HasLook marks
  pub passed : EachRow (PassedBy l stage) from e.id (opening_of v.seen marks) w.seen

-- the same where the rows are a circle, of which those from `from` on and before that of the element were
-- passed
pub record TookNext (l : Limits) (n from stage u : ℕ) (v w : View) (e : Element) (attempt : ℕ) : Type 0 where
  pub took : Took l n e.id stage u v w e attempt
  pub passed : (i : ℕ) → i < rows_of l → IsBefore from e.id i
      → PassedBy l stage i (opening_of v.seen took.marks) w.seen

-- no row from row `end` on has an element
abbrev pub NoneBehind : Limits → ℕ → View → Type 0
NoneBehind l end v = (i : ℕ) → end ≤ i → i < rows_of l → IsUnborn v.seen i
