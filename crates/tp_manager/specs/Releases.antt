-- What a release answers, and what a collect. In each definition l are the table's limits, `old` is what the
-- pass shows before the call, and `new` what it shows after it; i is the row, v the view before, and w the
-- view after.
use Rattle.std.specs.Prelude.{◌≡◌, ◌≢◌, ℕ, Some, List, [], ◌∷◌, ◌++◌}
use mathlib.Core.List.{IsPrefix}
use Rattle.tp_model.specs.declared.types.TheConstants.{REPLY_STAGE}
use Rattle.tp_model.specs.declared.types.Element.{Element}
use Rattle.tp_model.specs.declared.types.Limits.{Limits}
use Rattle.tp_model.specs.declared.types.Refusal.{Refusal}
use Rattle.tp_model.specs.declared.types.Refusal.TheVariants as refusals
use Rattle.tp_model.specs.declared.types.Status.{Status}
use Rattle.tp_model.specs.declared.types.Status.TheVariants.{Held, Killed}
use Rattle.tp_model.specs.declared.event.Event.{Event}
use Rattle.tp_model.specs.declared.event.Event.TheVariants.{Abort, Kill}
use Rattle.tp_model.specs.History.{IsUnborn, element_of, status_of}
use Rattle.tp_rule.specs.Views.{hand}
use Rattle.tp_rule.specs.declared.view.View.{View}
use Rattle.tp_manager.specs.Shown.{PassShown}
use Rattle.tp_manager.specs.Calls.{Adds, AtPoint, HasStatus, IsQuiet, KeepsRun}
use Rattle.tp_manager.specs.Requeues.{IsBetween}
use Rattle.tp_manager.specs.CallSteps.{Gained}

-- the pass has aborted this unit, which held the element in this attempt, and has done nothing else
pub record Releases (l : Limits) (id unit attempt : ℕ) (old new : PassShown) : Type 0 where
  pub adds : Adds (Abort old.number unit) old new
  pub held : HasStatus l id (Held unit attempt) adds.before
  pub open_unit : new.open_unit ≡ old.open_unit
  pub run : KeepsRun old new

-- a unit holds an element with this status
abbrev pub IsHeld : Status → Type 0
IsHeld s = (u : ℕ) × (n : ℕ) × (s ≡ Held u n)

-- an element with this id is born, and no unit holds it
abbrev pub HasUnheld : Limits → ℕ → List Event → Type 0
HasUnheld l id h = (x : Element) × (element_of h id ≡ Some x) × ¬ IsHeld (status_of l.attempts h id)

-- why a release was refused; it has done nothing then
abbrev pub ReleaseFails : Limits → ℕ → PassShown → PassShown → Refusal → Type 0
ReleaseFails l id old new refusals.NotThere = IsQuiet old new × AtPoint old new (λ h. IsUnborn h id)
ReleaseFails l id old new refusals.NotHeld = IsQuiet old new × AtPoint old new (HasUnheld l id)
ReleaseFails l id old new other = ⊥

-- the pass has killed this reply, and has done nothing else
pub record Collects (id : ℕ) (x : Element) (old new : PassShown) : Type 0 where
  pub adds : Adds (Kill old.number id) old new
  pub is_born : element_of new.seen id ≡ Some x
  pub is_reply : x.stage ≡ REPLY_STAGE
  pub open_unit : new.open_unit ≡ old.open_unit
  pub run : KeepsRun old new

-- an element with this id is born, and no reply
abbrev pub HasNoReply : ℕ → List Event → Type 0
HasNoReply id h = (x : Element) × (element_of h id ≡ Some x) × (x.stage ≢ REPLY_STAGE)

-- a reply with this id is born, and was killed
abbrev pub HasKilledReply : Limits → ℕ → List Event → Type 0
HasKilledReply l id h = (x : Element) × (element_of h id ≡ Some x) × (x.stage ≡ REPLY_STAGE)
    × (status_of l.attempts h id ≡ Killed)

-- why a collect was refused; it has done nothing then
abbrev pub CollectFails : Limits → ℕ → PassShown → PassShown → Refusal → Type 0
CollectFails l id old new refusals.NotThere = IsQuiet old new × AtPoint old new (λ h. IsUnborn h id)
CollectFails l id old new refusals.BadStage = IsQuiet old new × AtPoint old new (HasNoReply id)
CollectFails l id old new refusals.AlreadyKilled = IsQuiet old new × AtPoint old new (HasKilledReply l id)
CollectFails l id old new other = ⊥

-- in at most n steps the unit was aborted that held element i in this attempt
pub record Freeing (l : Limits) (n i unit attempt : ℕ) (v w : View) : Type 0 where
  pub gained : Gained l n (Abort (hand v).number unit ∷ []) v w
  pub before : List Event
  pub begins : IsPrefix v.seen before
  pub ends : w.seen ≡ before ++ Abort (hand v).number unit ∷ []
  pub held : HasStatus l i (Held unit attempt) before

-- why element i, which is born in history a, wasn't released by history b
abbrev pub IsPastRelease : Limits → ℕ → List Event → List Event → Refusal → Type 0
IsPastRelease l i a b refusals.NotHeld = IsBetween a b (λ h. ¬ IsHeld (status_of l.attempts h i))
IsPastRelease l i a b other = ⊥

-- why reply i wasn't collected by history b
abbrev pub IsPastCollect : Limits → ℕ → List Event → List Event → Refusal → Type 0
IsPastCollect l i a b refusals.AlreadyKilled = IsBetween a b (λ h. status_of l.attempts h i ≡ Killed)
IsPastCollect l i a b other = ⊥
