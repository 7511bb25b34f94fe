-- What a kill does on its way. In each definition l are the table's limits, i is the row, v is the view
-- before, and w the view after.
use Rattle.std.specs.Prelude.{◌≡◌, ℕ, ◌≤◌, List, [], ◌∷◌, ◌++◌, length}
use mathlib.Core.List.{IsPrefix}
use Rattle.tp_model.specs.declared.types.Limits.{Limits}
use Rattle.tp_model.specs.declared.types.Refusal.{Refusal}
use Rattle.tp_model.specs.declared.types.Refusal.TheVariants as refusals
use Rattle.tp_model.specs.declared.types.Status.TheVariants as statuses
use Rattle.tp_model.specs.declared.event.Event.{Event}
use Rattle.tp_model.specs.declared.event.Event.TheVariants.{Kill}
use Rattle.tp_model.specs.History.{status_of}
use Rattle.tp_model.specs.Words.{ClaimWord, TakenWord}
use Rattle.tp_rule.specs.Steps.{AllowsKill}
use Rattle.tp_rule.specs.Views.{hand}
use Rattle.tp_rule.specs.declared.view.View.{View}
use Rattle.tp_manager.specs.Calls.{AreOfHolders}
use Rattle.tp_manager.specs.CallSteps.{Gained}

-- in at most n steps the pass has made the events es, all of them Aborts of units that held the element
pub record Freed (l : Limits) (n i : ℕ) (es : List Event) (v w : View) : Type 0 where
  pub gained : Gained l n es v w
  pub aborts : AreOfHolders l (hand v).number i v.seen w.seen es

-- and then the Kill of the element, which is the last that it has seen
pub record Slain (l : Limits) (n i : ℕ) (es : List Event) (v w : View) : Type 0 where
  pub gained : Gained l n (es ++ Kill (hand v).number i ∷ []) v w
  pub before : List Event
  pub begins : IsPrefix v.seen before
  pub ends : w.seen ≡ before ++ Kill (hand v).number i ∷ []
  pub aborts : AreOfHolders l (hand v).number i v.seen w.seen es

-- the element can't be killed any more
abbrev pub IsPastKill : Limits → List Event → ℕ → Refusal → Type 0
IsPastKill l h i (refusals.Consumed u) = status_of l.attempts h i ≡ statuses.Consumed u
IsPastKill l h i refusals.AlreadyKilled = status_of l.attempts h i ≡ statuses.Killed
IsPastKill l h i other = ⊥

-- how many units stand in the way of a kill where this claim was found: the one that has taken the element,
-- or none
abbrev pub takers : ClaimWord → ℕ
takers (TakenWord n u r) = 1
takers other = 0

-- the element may be killed, whose claim word is this one: the unit that had taken it is aborted, in one step
-- and by this many own Aborts, none or one
abbrev pub Loosened : Limits → ℕ → ClaimWord → ℕ → View → View → Type 0
Loosened l i word count v w = (es : List Event) × (length es ≡ count) × (count ≤ takers word)
    × Freed l (takers word) i es v w
    × AllowsKill l w.seen word

-- the element was killed, in at most n steps, after this many own Aborts, at most `left`
abbrev pub KillsIn : Limits → ℕ → ℕ → ℕ → ℕ → View → View → Type 0
KillsIn l n i left count v w = (es : List Event) × (length es ≡ count) × (count ≤ left) × Slain l n i es v w

-- it was not, in at most n steps, after at most `left` own Aborts
abbrev pub FailsIn : Limits → ℕ → ℕ → ℕ → Refusal → View → View → Type 0
FailsIn l n i left e v w = (es : List Event) × (length es ≤ left) × Freed l n i es v w
    × IsPastKill l w.seen i e
