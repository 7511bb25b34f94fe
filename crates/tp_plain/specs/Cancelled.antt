-- What a cancel is good for: the end of the work on a family, whatever a manager of one thread is asked
-- afterwards.
use Rattle.std.specs.Prelude.{◌≡◌, ℕ, Ok, List, ◌∷◌, ◌++◌}
use Rattle.tp_model.specs.declared.types.Cancelled.{Cancelled}
use Rattle.tp_model.specs.declared.types.Limits.{Limits}
use Rattle.tp_model.specs.declared.event.Event.{Event}
use Rattle.tp_model.specs.Families.{family, IsSettledFamily, WorksOn}
use Rattle.tp_plain.specs.OneThread.{State, start, Call, CallCancel, Answers, Run}

-- in the longer history g the family is settled and has the elements that it had in h, and no event after h
-- claims an element of it, or commits a unit that claimed one
pub record StaysSettled (l : Limits) (root : ℕ) (h g : List Event) : Type 0 where
  pub settled : IsSettledFamily l.attempts g root
  pub same : family g root ≡ family h root
  pub never : (between after : List Event) (e : Event) → (h ++ between) ++ e ∷ after ≡ g → ¬ WorksOn g root e

-- once a cancel went through, the work on the family is over, whatever calls come next
abbrev pub CancelledForGood : Type 0
CancelledForGood =
    (l : Limits) (before : List Call) (s : State) (c root : ℕ) (answer : Cancelled) (t : State)
    (after : List Call) (u : State)
    → Run (start l) before s → Answers s (CallCancel c root (Ok answer)) t → Run t after u
    → StaysSettled l root t.history u.history
