-- Claims by which elements that wait are held, each by the pass that is to hold it, over the manager of one
-- thread that all passes are.
use Rattle.std.specs.Prelude.{◌≡◌, ℕ, ◌+◌, ◌*◌, ◌<◌, Option, None, Some, List}
use Rattle.std.specs.List.{AllZip}
use Rattle.tp_model.specs.declared.types.Status.{Status}
use Rattle.tp_model.specs.declared.types.Status.TheVariants.{Held, Waiting}
use Rattle.tp_model.specs.History.{element_of, rounds, status_of}
use Rattle.tp_plain.specs.OneThread.{State, pass_at}
use Rattle.tp_rollover.specs.Checks.{IsNamed}
use Rattle.tp_rollover.specs.Survivors.{IsHolder}
use Rattle.tp_rollover.specs.declared.moved.Moved.{Moved}
use Rattle.tp_rollover.specs.declared.survivors.Survivor.{Survivor}

-- what an element's status is
abbrev pub status_in : State → ℕ → Status
status_in s i = status_of s.limits.attempts s.history i

-- the unit in the hand of pass c holds element i, in the attempt after those that it had as it waited so
pub record IsInHandOf (p : ℕ) (s : State) (i : ℕ) (status : Status) (c : ℕ) : Type 0 where
  pub place : ℕ
  pub tries : ℕ
  pub one_of : c < p
  pub inside : place < s.limits.units
  pub in_hand : (pass_at s c).holding ≡ Some (c * s.limits.units + place)
  pub is : status_in s i ≡ Held (c * s.limits.units + place) (tries + 1)
  pub was : status ≡ Waiting tries

-- element i stands so, or is taken by the pass that is to hold it
abbrev pub StandsFor : ℕ → State → ℕ → Status → Option ℕ → Type 0
StandsFor p s i status None = status_in s i ≡ status
StandsFor p s i status (Some c) = IsInHandOf p s i status c

-- what was described stands so, or is held so
abbrev pub StandsHeld : ℕ → State → Survivor → Moved → Type 0
StandsHeld p s one m = StandsFor p s m.new one.status one.holder

-- what was described waits or is parked so, before any of it is held
abbrev pub StandsFree : State → Survivor → Moved → Type 0
StandsFree s one m = status_in s m.new ≡ one.status

-- From s on the passes have claimed what they are to hold, and t is what the manager is then: each stands or
-- is held so, who had something in hand has it still, who is to hold nothing has what it had, and in all else
-- the elements are what they were.
pub record HoldAgain (p : ℕ) (s t : State) (survivors : List Survivor) (moved : List Moved) : Type 0 where
  pub limits : t.limits ≡ s.limits
  pub each : AllZip (StandsHeld p t) survivors moved
  pub others : (i : ℕ) → ¬ IsNamed (λ m. m.new) i moved → status_in t i ≡ status_in s i
  pub born : (i : ℕ) → element_of t.history i ≡ element_of s.history i
  pub rounds_are : (i : ℕ) → rounds t.history i ≡ rounds s.history i
  pub kept : (c u : ℕ) → (pass_at s c).holding ≡ Some u → (pass_at t c).holding ≡ Some u
  pub idle : (c : ℕ) → ¬ IsHolder c survivors → (pass_at t c).holding ≡ (pass_at s c).holding
