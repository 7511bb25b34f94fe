-- What a requeue answers, and what it does on its way. In each definition l are the table's limits; `old` and
-- `new` are what the pass shows before and after the call, v and w its views before and after a part of it,
-- and i is the row.
use Rattle.std.specs.Prelude.{◌≡◌, ℕ, ◌≤◌, List, [], ◌∷◌, ◌++◌, Some}
use mathlib.Core.List.{IsPrefix}
use Rattle.tp_model.specs.declared.types.Element.{Element}
use Rattle.tp_model.specs.declared.types.Limits.{Limits}
use Rattle.tp_model.specs.declared.types.TheConstants.{MAX_ROUNDS}
use Rattle.tp_model.specs.declared.types.Refusal.{Refusal}
use Rattle.tp_model.specs.declared.types.Refusal.TheVariants as refusals
use Rattle.tp_model.specs.declared.event.Event.{Event}
use Rattle.tp_model.specs.declared.event.Event.TheVariants.{Requeue}
use Rattle.tp_model.specs.declared.trace.TraceEntry.{TraceEntry}
use Rattle.tp_model.specs.History.{IsUnborn, element_of, rounds, status_of}
use Rattle.tp_model.specs.Steps.{IsParked}
use Rattle.tp_rule.specs.Steps.{with_event}
use Rattle.tp_rule.specs.Views.{hand}
use Rattle.tp_rule.specs.declared.view.View.{View}
use Rattle.tp_manager.specs.Calls.{Adds, AtPoint, IsQuiet, KeepsRun}
use Rattle.tp_manager.specs.Shown.{PassShown}
use Rattle.tp_manager.specs.CallSteps.{Stepped, with_trace}

-- the pass has given the element this round, and has done nothing else
pub record Requeues (id round : ℕ) (old new : PassShown) : Type 0 where
  pub low : 1 ≤ round
  pub high : round ≤ MAX_ROUNDS
  pub adds : Adds (Requeue old.number id round) old new
  pub open_unit : new.open_unit ≡ old.open_unit
  pub run : KeepsRun old new

-- an element with this id is born, and isn't parked
abbrev pub HasUnparked : Limits → ℕ → List Event → Type 0
HasUnparked l id h = (x : Element) × (element_of h id ≡ Some x) × ¬ IsParked (status_of l.attempts h id)

-- an element with this id is born, is parked, and has had all its rounds
abbrev pub HasNoRound : Limits → ℕ → List Event → Type 0
HasNoRound l id h = (x : Element) × (element_of h id ≡ Some x) × IsParked (status_of l.attempts h id)
    × (rounds h id ≡ MAX_ROUNDS)

-- why a requeue was refused; it has done nothing then
abbrev pub RequeueFails : Limits → ℕ → PassShown → PassShown → Refusal → Type 0
RequeueFails l id old new refusals.NotThere = IsQuiet old new × AtPoint old new (λ h. IsUnborn h id)
RequeueFails l id old new refusals.NotParked = IsQuiet old new × AtPoint old new (HasUnparked l id)
RequeueFails l id old new refusals.NoRound = IsQuiet old new × AtPoint old new (HasNoRound l id)
RequeueFails l id old new other = ⊥

-- an element with this id is born, and was given this many further rounds
abbrev pub HasHadRounds : ℕ → ℕ → List Event → Type 0
HasHadRounds id n h = ((x : Element) × (element_of h id ≡ Some x)) × (rounds h id ≡ n)

-- in at most n steps element i was given this round, which is the last that the pass has seen, and nothing
-- else has changed in it but its trace
pub record Renewed (l : Limits) (n i round : ℕ) (v w : View) : Type 0 where
  pub low : 1 ≤ round
  pub high : round ≤ MAX_ROUNDS
  pub marks : List TraceEntry
  pub walk : Stepped l n marks v w
  pub kept : hand w ≡ with_trace (hand w).trace (with_event (Requeue (hand v).number i round) (hand v))
  pub before : List Event
  pub begins : IsPrefix v.seen before
  pub ends : w.seen ≡ before ++ Requeue (hand v).number i round ∷ []

-- this is so of some history from a to b
abbrev pub IsBetween : List Event → List Event → (List Event → Type 0) → Type 0
IsBetween a b Holds = (p : List Event) × IsPrefix a p × IsPrefix p b × Holds p

-- why element i, which is born in history a, can't be given another round by history b
abbrev pub IsPastRequeue : Limits → ℕ → List Event → List Event → Refusal → Type 0
IsPastRequeue l i a b refusals.NotParked = IsBetween a b (λ h. ¬ IsParked (status_of l.attempts h i))
IsPastRequeue l i a b refusals.NoRound = IsBetween a b (λ h. IsParked (status_of l.attempts h i)
    × (rounds h i ≡ MAX_ROUNDS))
IsPastRequeue l i a b other = ⊥
