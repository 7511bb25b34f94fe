-- What a pass shows to contracts, and the points of its calls.
use Rattle.std.specs.Prelude.{◌≡◌, ◌⊎◌, ℕ, ◌+◌, ◌<◌, ◌≤◌, Bool, true, false, if◌then◌else◌, Option, None}
use Rattle.std.specs.Prelude.{Some}
use Rattle.std.specs.Prelude.{List, [], ◌∷◌}
use mathlib.Core.List.{IsPrefix}
use Rattle.tp_model.specs.declared.types.Limits.{Limits}
use Rattle.tp_model.specs.declared.event.Event.{Event}
use Rattle.tp_model.specs.declared.event.Event.TheVariants.{Abort}
use Rattle.tp_model.specs.declared.trace.StepKind.{StepKind}
use Rattle.tp_model.specs.declared.trace.StepKind.TheVariants.{DraftStore, SeatLoad, UnitChoice, Raise, Draw}
use Rattle.tp_model.specs.declared.trace.StepKind.TheVariants.{Void}
use Rattle.tp_model.specs.declared.trace.TraceEntry.{TraceEntry}
use Rattle.tp_model.specs.History.{Committed, In, IsClaim, IsUnborn, end_of, events_by}
use Rattle.tp_model.specs.Steps.{IsBlock, IsLegal, IsPart, MayUse}

-- what a pass shows: its number, the history that it has seen, its own events, its open unit, the row that it
-- uses next, how many rows are left to it from there on, the spare blocks that it has drawn, and its atomic
-- steps
pub record PassView : Type 0 where
  pub number : ℕ
  pub seen : List Event
  pub mine : List Event
  pub open_unit : Option ℕ
  pub next : ℕ
  pub left : ℕ
  pub blocks : List ℕ
  pub trace : List TraceEntry

-- pass c took unit u, and neither committed nor aborted it: another may have aborted it
pub record IsOwnOpen (h : List Event) (c u : ℕ) : Type 0 where
  pub item : ℕ
  pub attempt : ℕ
  pub claimed : IsClaim h c u item attempt
  pub uncommitted : (first count : ℕ) → ¬ (end_of h u ≡ Some (Committed first count))
  pub kept : ¬ In (Abort c u) h

-- every unit that pass c took has ended, but the one that it has open
abbrev pub AreEnded : List Event → ℕ → Option ℕ → Type 0
AreEnded h c unit = (u i n : ℕ) → IsClaim h c u i n → ¬ (unit ≡ Some u) → ¬ (end_of h u ≡ None)

-- these numbers ascend, and are at least `low` and below `high`
abbrev pub Ascend : ℕ → ℕ → List ℕ → Type 0
Ascend low high [] = Unit {0}
Ascend low high (n ∷ ns) = (low ≤ n) × (n < high) × Ascend (n + 1) high ns

-- the rows from `first` up to `end` are an area of pass c, which has drawn these blocks: its part, or one of
-- them
abbrev pub IsOwnArea : Limits → ℕ → List ℕ → ℕ → ℕ → Type 0
IsOwnArea l c blocks first end = IsPart l c first end ⊎ ((b : ℕ) × In b blocks × IsBlock l b first end)

-- the rows that are left to pass c, which has drawn these blocks, are a run from row `next` on
pub record IsRun (l : Limits) (h : List Event) (c : ℕ) (blocks : List ℕ) (next left : ℕ) : Type 0 where
  -- the blocks were drawn in ascending order
  pub drawn : Ascend 0 l.spare blocks
  -- the run lies in an area of the pass
  pub first : ℕ
  pub end : ℕ
  pub own : IsOwnArea l c blocks first end
  pub begins : first ≤ next
  -- and reaches to its end
  pub ends : next + left ≡ end
  -- no row of it is born
  pub unborn : (i : ℕ) → next ≤ i → i < next + left → IsUnborn h i
  -- and the pass may use each
  pub usable : (i : ℕ) → next ≤ i → i < next + left → MayUse l h c i

-- it has seen a legal history; its own events are those of that history with its number; the rows that are
-- left to it are a run there; its open unit is there its own, not committed, and not aborted by itself; and
-- its other units have ended there
pub record IsPassView (l : Limits) (v : PassView) : Type 0 where
  pub given : v.number < l.parts
  pub legal : IsLegal l v.seen
  pub own : v.mine ≡ events_by v.number v.seen
  pub run : IsRun l v.seen v.number v.blocks v.next v.left
  pub open_own : (u : ℕ) → v.open_unit ≡ Some u → IsOwnOpen v.seen v.number u
  pub ended : AreEnded v.seen v.number v.open_unit

-- whether a step looks at the table: what it finds or changes there is tied to what is seen after it. A draft
-- store sees nothing, the load that cuts or joins seats says nothing, the choice of a unit finds nothing out
-- of its word, and the exchanges of a mark, of the counter of drawn blocks, and of the head of a row that is
-- left behind say nothing of the history.
abbrev pub looks : StepKind → Bool
looks DraftStore = false
looks SeatLoad = false
looks UnitChoice = false
looks Raise = false
looks Draw = false
looks Void = false
looks other = true

-- one of these steps looks
abbrev pub HasLook : List TraceEntry → Type 0
HasLook steps = (step : TraceEntry) × In step steps × (looks step.kind ≡ true)

-- the opening of a call that makes these steps: what is seen after the first that looks, or at its entry
-- where none does
abbrev pub opening_of : List Event → List TraceEntry → List Event
opening_of entry [] = entry
opening_of entry (step ∷ steps) = if looks step.kind then step.seen else opening_of entry steps

-- a point of a call: a history that its opening begins, and that begins what is seen at its exit
pub record IsPoint (opening exit point : List Event) : Type 0 where
  pub opened : IsPrefix opening point
  pub seen : IsPrefix point exit
