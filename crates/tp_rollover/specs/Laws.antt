-- The laws over the pair of managers.
use Rattle.std.specs.Prelude.{◌≡◌, ◌≢◌, ℕ, ◌+◌, ◌<◌, ◌≤◌, ◌++◌, List, Some, length, map}
use mathlib.Core.List.{IsPrefix}
use Rattle.tp_model.specs.declared.types.Element.{Element}
use Rattle.tp_model.specs.declared.types.Limits.{Limits}
use Rattle.tp_model.specs.declared.types.Status.TheVariants.{Held, Killed}
use Rattle.tp_model.specs.declared.event.Event.{Event}
use Rattle.tp_model.specs.declared.event.Event.TheVariants.{Kill}
use Rattle.tp_model.specs.Counts.{counts}
use Rattle.tp_model.specs.Families.{IsSettledFamily}
use Rattle.tp_model.specs.History.{In, IsBorn, IsSettled, born, status_of}
use Rattle.tp_model.specs.Steps.{AreLimits, IsLegal}
use Rattle.tp_plain.specs.OneThread.{State, start}
use Rattle.tp_manager.specs.Shown.{KeeperShown, PassShown}
use Rattle.tp_rollover.specs.Alike.{StandAlike}
use Rattle.tp_rollover.specs.Anew.{all_held, made_anew, made_unheld}
use Rattle.tp_rollover.specs.Answers.{Rolls}
use Rattle.tp_rollover.specs.Carries.{IsMadeAlike}
use Rattle.tp_rollover.specs.Checks.{CountsOnly}
use Rattle.tp_rollover.specs.Faults.{AreFree}
use Rattle.tp_rollover.specs.Fits.{AreFit}
use Rattle.tp_rollover.specs.Rolls.{RollsOver, kills}
use Rattle.tp_rollover.specs.Survivors.{AreSurvivors, StandAgain}
use Rattle.tp_rollover.specs.declared.moved.Moved.{Moved}
use Rattle.tp_rollover.specs.declared.survivors.Survivor.{Survivor}

-- a family that is settled, as after a cancel, is settled in the new manager: at most replies of it were
-- carried over
abbrev pub CancelledStays : Type 0
CancelledStays =
    (l k : Limits) (c : ℕ) (h h' g : List Event) (moved : List Moved) → RollsOver l k c h h' g moved
    → (m : Moved) → In m moved → IsSettledFamily l.attempts h m.old_root
    → IsSettledFamily k.attempts g m.new_root

-- what was carried over is killed in the old manager for good, so no unit of that consumes it
abbrev pub ConsumedInOne : Type 0
ConsumedInOne =
    (l k : Limits) (c : ℕ) (h h' g : List Event) (moved : List Moved) → RollsOver l k c h h' g moved
    → (z : List Event) → IsLegal l z → IsPrefix h' z → (m : Moved) → In m moved
    → status_of l.attempts z m.old ≡ Killed

-- and what was consumed or killed before wasn't carried over
abbrev pub SettledNotCarried : Type 0
SettledNotCarried =
    (l k : Limits) (c : ℕ) (h h' g : List Event) (moved : List Moved) → RollsOver l k c h h' g moved
    → (i : ℕ) → IsSettled (status_of l.attempts h i) → (m : Moved) → In m moved → m.old ≢ i

-- in the old manager everything is consumed or killed
abbrev pub OldIsOver : Type 0
OldIsOver =
    (l k : Limits) (c : ℕ) (h h' g : List Event) (moved : List Moved) → RollsOver l k c h h' g moved
    → (x : Element) → IsBorn h' x → IsSettled (status_of l.attempts h' x.id)

-- the accounts add up: what was alive is alive, held or not, and what was born beside it is consumed
pub record AccountsAddUp (l k : Limits) (h h' g : List Event) (moved : List Moved) : Type 0 where
  pub was : (counts l.attempts h).waiting + (counts l.attempts h).parked + (counts l.attempts h).held
      ≡ length moved
  pub waiting : (counts k.attempts g).waiting ≡ (counts l.attempts h).waiting
  pub parked : (counts k.attempts g).parked ≡ (counts l.attempts h).parked
  pub held : (counts k.attempts g).held ≡ (counts l.attempts h).held
  pub carriers : (counts k.attempts g).consumed + length moved ≡ length (born g)
  pub killed : (counts l.attempts h').killed ≡ (counts l.attempts h).killed + length moved
  pub consumed : (counts l.attempts h').consumed ≡ (counts l.attempts h).consumed

abbrev pub RolloverAddsUp : Type 0
RolloverAddsUp =
    (l k : Limits) (c : ℕ) (h h' g : List Event) (moved : List Moved) → RollsOver l k c h h' g moved
    → AccountsAddUp l k h h' g moved

-- What was described in one manager and stands again in another is what a rollover carries over: with the
-- kills in the one it is a rollover. So all that holds of rollovers holds of a description that is made
-- alive.
abbrev pub RestoredIsRolledOver : Type 0
RestoredIsRolledOver =
    (l k : Limits) (h g : List Event) (survivors : List Survivor) (moved : List Moved)
    → AreLimits l → k.attempts ≡ l.attempts → IsLegal l h → IsLegal k g
    → AreSurvivors l h survivors → StandAgain k g survivors moved
    → RollsOver l k 0 h (h ++ kills l.attempts h 0 moved) g moved

-- each stands with the status that it had, none was held, and the old manager goes on by the kills alone
pub record RollsPlainly (l k : Limits) (h h' g : List Event) (moved : List Moved) : Type 0 where
  pub same : (m : Moved) → In m moved → status_of k.attempts g m.new ≡ status_of l.attempts h m.old
  pub idle : (i u n : ℕ) → ¬ (status_of l.attempts h i ≡ Held u n)
  pub killed : h' ≡ h ++ map (λ (m : Moved). Kill 0 m.old) moved

-- where no pass of the old manager has a unit open, it is so, and none of the new one has
abbrev pub FreeIsPlain : Type 0
FreeIsPlain =
    (l k : Limits) (old' new' : KeeperShown) (olds olds' news' : List PassShown) (moved : List Moved)
    → (r : Rolls l k old' new' olds olds' news' moved) → AreFree olds
    → RollsPlainly l k r.before old'.seen new'.seen moved × AreFree news'

-- What is computed of what was found alive, and is fit, stands as it was, before any of it is held, and
-- nothing else is alive: in a manager with the same attempt limit in which nothing had happened, by p of its
-- passes. m are the limits of the manager by whose parts it goes on.
abbrev pub ComputedStands : Type 0
ComputedStands =
    (l m k : Limits) (h : List Event) (p : ℕ) (survivors : List Survivor) (moved : List Moved) (t : State)
    → AreLimits k → k.attempts ≡ l.attempts → p ≤ k.parts → IsLegal l h → AreSurvivors l h survivors
    → AreFit m k survivors → made_unheld m p survivors (start k) ≡ Some (moved, t)
    → StandAlike k.attempts t.history survivors moved
    × CountsOnly (length moved) (counts k.attempts t.history)

-- So it is as it was wherever anything is computed of it.
abbrev pub ComputedIsAlike : Type 0
ComputedIsAlike =
    (l m k : Limits) (h : List Event) (p : ℕ) (survivors : List Survivor) (made : List Moved × State)
    → AreLimits k → k.attempts ≡ l.attempts → p ≤ k.parts → IsLegal l h → AreSurvivors l h survivors
    → AreFit m k survivors → made_anew m p survivors (start k) ≡ Some made
    → IsMadeAlike m p survivors (start k)

-- And once it is there each that was held can be claimed by its pass, where the manager has one of that
-- number: it waits, and the pass has kept a unit for it.
abbrev pub ComputedIsHeld : Type 0
ComputedIsHeld =
    (l m k : Limits) (h : List Event) (p : ℕ) (survivors : List Survivor) (moved : List Moved) (t : State)
    → AreLimits k → k.attempts ≡ l.attempts → p ≤ k.parts → IsLegal l h → AreSurvivors l h survivors
    → AreFit m k survivors → ((s : Survivor) → In s survivors → (c : ℕ) → s.holder ≡ Some c → c < p)
    → made_unheld m p survivors (start k) ≡ Some (moved, t)
    → (after : State) × (all_held p survivors moved t ≡ Some after)
