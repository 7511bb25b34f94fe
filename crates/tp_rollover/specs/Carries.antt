-- What a rollover carries over, and what a restoration makes, computed: the new ids, and the new manager.
use Rattle.std.specs.Prelude.{◌≡◌, ℕ, List, Option, Some, None, Result, Ok, Err, length}
use Rattle.std.specs.List.{AllZip}
use Rattle.tp_model.specs.declared.types.Limits.{Limits}
use Rattle.tp_model.specs.declared.event.Event.{Event}
use Rattle.tp_model.specs.History.{In}
use Rattle.tp_model.specs.Steps.{IsLegal}
use Rattle.tp_model.specs.Counts.{counts}
use Rattle.tp_plain.specs.OneThread.{State}
use Rattle.tp_manager.specs.Shown.{KeeperShown, PassShown}
use Rattle.tp_rollover.specs.Thread.{AreTogether, IsFresh, Stays}
use Rattle.tp_rollover.specs.Alike.{StandAlike}
use Rattle.tp_rollover.specs.Anew.{all_held, made_anew, made_unheld}
use Rattle.tp_rollover.specs.Checks.{CountsOnly}
use Rattle.tp_rollover.specs.Fits.{AreFit}
use Rattle.tp_rollover.specs.Survivors.{AreInHand, AreSurvivors}
use Rattle.tp_rollover.specs.declared.moved.Moved.{Moved}
use Rattle.tp_rollover.specs.declared.moved.RollFault.{RollFault}
use Rattle.tp_rollover.specs.declared.moved.RollFault.TheVariants.{Full}
use Rattle.tp_rollover.specs.declared.survivors.Survivor.{Survivor}

-- none of these passes has done anything but look
abbrev pub AreFresh : Limits → List PassShown → Type 0
AreFresh l passes = (p : PassShown) → In p passes → IsFresh l p

-- what was done is what is computed, and it was refused as full only where that is
abbrev pub IsAsComputed : {A B : Type 0} → Result A RollFault → (A → B) → Option B → Type 0
IsAsComputed (Ok x) value computed = computed ≡ Some (value x)
IsAsComputed (Err Full) value computed = computed ≡ None
IsAsComputed (Err other) value computed = Unit {0}

-- What is computed of descriptions, which are made alive by p passes in a manager that was this before: all
-- that was described stands as it was, and nothing else is alive; then each that was held can be claimed.
pub record IsMadeAlike (l : Limits) (p : ℕ) (survivors : List Survivor) (before : State) : Type 0 where
  pub moved : List Moved
  pub unheld : State
  pub made : made_unheld l p survivors before ≡ Some (moved, unheld)
  pub alike : StandAlike before.limits.attempts unheld.history survivors moved
  pub only : CountsOnly (length moved) (counts before.limits.attempts unheld.history)
  pub after : State
  pub held : all_held p survivors moved unheld ≡ Some after

-- descriptions that aren't fit, or of which no such thing is computed
abbrev pub DiffersAnew : Limits → ℕ → List Survivor → State → Type 0
DiffersAnew l p survivors before = AreFit l before.limits survivors → ¬ IsMadeAlike l p survivors before

-- nothing is computed of these, where they are what was found alive in a manager with the same attempt limit,
-- and are fit
abbrev pub IsUncomputed : Limits → ℕ → List Survivor → State → Type 0
IsUncomputed m p survivors before =
    (l : Limits) (h : List Event) → before.limits.attempts ≡ l.attempts → IsLegal l h
    → AreSurvivors l h survivors → AreFit m before.limits survivors → made_anew m p survivors before ≡ None

-- both are so
abbrev pub IsUnlike : Limits → ℕ → List Survivor → State → Type 0
IsUnlike m p survivors before = DiffersAnew m p survivors before × IsUncomputed m p survivors before

-- The passes of a manager with limits l did nothing but look, and looked together. What was alive then finds
-- no room in a manager that was this before, by p passes.
pub record WouldNotFit (l : Limits) (olds : List PassShown) (p : ℕ) (before : State) : Type 0 where
  pub keeper : KeeperShown
  pub looked : List PassShown
  pub together : AreTogether l keeper looked keeper.seen
  pub stay : AllZip Stays olds looked
  pub survivors : List Survivor
  pub found : AreSurvivors l keeper.seen survivors
  pub in_hand : AreInHand olds survivors
  pub full : made_anew l p survivors before ≡ None

-- The passes of a manager with limits l did nothing but look, and looked together. What was alive then was
-- made anew in a manager that was this before and is that then, by p passes.
pub record Carries (l : Limits) (olds : List PassShown) (p : ℕ) (before : State) (moved : List Moved)
    (after : State) : Type 0 where
  pub keeper : KeeperShown
  pub looked : List PassShown
  pub together : AreTogether l keeper looked keeper.seen
  pub stay : AllZip Stays olds looked
  pub survivors : List Survivor
  pub found : AreSurvivors l keeper.seen survivors
  pub in_hand : AreInHand olds survivors
  pub made : made_anew l p survivors before ≡ Some (moved, after)
