-- The end of the old manager: its first pass gives up what it has in hand, and kills what was carried over,
-- one after another, with no look together between the kills.
use Rattle.std.specs.Prelude.{◌≡◌, List, [], ◌∷◌, ◌++◌, Result, Ok, Err, if◌then◌else◌, is_some, ℕ}
use Rattle.tp_model.specs.declared.types.Killed.{Killed}
use Rattle.tp_model.specs.declared.types.Limits.{Limits}
use Rattle.tp_model.specs.declared.types.Refusal.{Refusal}
use Rattle.tp_model.specs.declared.event.Event.{Event}
use Rattle.tp_model.specs.History.{In}
use Rattle.tp_plain.specs.Computed.{abort_of}
use Rattle.tp_plain.specs.OneThread.{State, pass_at}
use Rattle.tp_manager.specs.Bounds.{kill_steps}
use Rattle.tp_manager.specs.Calls.{Follows}
use Rattle.tp_manager.specs.Shown.{PassShown}
use Rattle.tp_rollover.specs.AloneLaws.{KillAnswers}
use Rattle.tp_rollover.specs.Checks.{AscendFrom}
use Rattle.tp_rollover.specs.Finding.{StandsLiving}
use Rattle.tp_rollover.specs.Rolls.{IsGivenUp, kills}
use Rattle.tp_rollover.specs.declared.moved.Moved.{Moved}

-- pass c gives up what it has in hand, if it has something
abbrev pub hand_given_up : ℕ → State → State
hand_given_up c s = if is_some (pass_at s c).holding then (abort_of s c).1 else s

-- each of these was alive after this history, and their ids ascend
pub record AreMovedLiving (limit : ℕ) (h : List Event) (moved : List Moved) : Type 0 where
  pub each : (m : Moved) → In m moved → StandsLiving limit m.old h
  pub once : AscendFrom (λ m. m.old) 0 moved

-- a pass was to kill an element, with this answer
pub record KillsOne (l : Limits) (id : ℕ) (answer : Result Killed Refusal) (old new : PassShown)
    : Type 0 where
  pub limits : new.limits ≡ l
  pub turn : new.from ≡ old.from
  pub follows : Follows (kill_steps l) old new
  pub says : KillAnswers id l old new answer

-- it has killed all these
abbrev pub KillsAllMoved : Limits → List Moved → PassShown → PassShown → Type 0
KillsAllMoved l [] old new = new ≡ old
KillsAllMoved l (m ∷ moved) old new = (middle : PassShown) × (killed : Killed)
    × KillsOne l m.old (Ok killed) old middle × KillsAllMoved l moved middle new

-- it has killed some, and the next one was refused
pub record KillsShort (l : Limits) (moved : List Moved) (old new : PassShown) : Type 0 where
  pub done : List Moved
  pub next : Moved
  pub rest : List Moved
  pub moved_are : moved ≡ done ++ next ∷ rest
  pub middle : PassShown
  pub all : KillsAllMoved l done old middle
  pub why : Refusal
  pub refused : KillsOne l next.old (Err why) middle new

-- the history goes on from h to h' by what pass c does to the end
pub record Buries (limit c : ℕ) (h h' : List Event) (moved : List Moved) : Type 0 where
  pub given_up : List Event
  pub own : IsGivenUp limit h c given_up
  pub killed : h' ≡ (h ++ given_up) ++ kills limit (h ++ given_up) c moved
