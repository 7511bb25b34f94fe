-- What a cancel answers. In each definition l are the table's limits, root is the id of the request, `old` is
-- what the pass shows before the call, and `new` what it shows after it.
use Rattle.std.specs.Prelude.{◌≡◌, ◌≢◌, ◌⊎◌, ℕ, ◌+◌, Some, List, [], ◌∷◌, ◌++◌}
use mathlib.Core.List.{IsPrefix}
use Rattle.tp_model.specs.declared.types.TheConstants.{REPLY_STAGE}
use Rattle.tp_model.specs.declared.types.Element.{Element}
use Rattle.tp_model.specs.declared.types.Limits.{Limits}
use Rattle.tp_model.specs.declared.types.Refusal.{Refusal}
use Rattle.tp_model.specs.declared.types.Refusal.TheVariants as refusals
use Rattle.tp_model.specs.declared.types.Status.TheVariants.{Held}
use Rattle.tp_model.specs.declared.event.Event.{Event}
use Rattle.tp_model.specs.declared.event.Event.TheVariants.{Abort, Kill}
use Rattle.tp_model.specs.History.{In, element_of, status_of}
use Rattle.tp_model.specs.Families.{IsRequest, IsSettledFamily}
use Rattle.tp_model.specs.Orders.{IsReached, IsWalk}
use Rattle.tp_manager.specs.Shown.{PassShown}
use Rattle.tp_manager.specs.Calls.{AreOfHolders, AtPoint, IsQuiet, KeepsRun}

-- element i is born, of the family, and no reply
abbrev pub IsTarget : ℕ → ℕ → List Event → Type 0
IsTarget root i h = (x : Element) × (element_of h i ≡ Some x) × (x.root ≡ root) × (x.stage ≢ REPLY_STAGE)

-- the event is, between two histories, a Kill by pass c of an element of the family that is no reply, or an
-- Abort by it of a unit that held one where the Abort stands
pub record IsOfCancel (l : Limits) (c root : ℕ) (from to : List Event) (e : Event) : Type 0 where
  pub item : ℕ
  pub before : List Event
  pub begins : IsPrefix from before
  pub target : IsTarget root item before
  pub does : (e ≡ Kill c item) ⊎ ((u : ℕ) × (n : ℕ) × (e ≡ Abort c u)
      × (status_of l.attempts before item ≡ Held u n))
  pub within : IsPrefix (before ++ e ∷ []) to

-- each of these events is one
abbrev pub AreOfCancel : Limits → ℕ → ℕ → List Event → List Event → List Event → Type 0
AreOfCancel l c root from to es = (e : Event) → In e es → IsOfCancel l c root from to e

-- how many Kills there are among the events
abbrev pub one_kill : Event → ℕ
one_kill (Kill c i) = 1
one_kill other = 0

abbrev pub kills_among : List Event → ℕ
kills_among [] = 0
kills_among (e ∷ h) = one_kill e + kills_among h

-- element i was left alone; or it is one that a cancel ends, and pass c aborted units that held it, and then
-- killed it or did not
abbrev pub IsDoneAt : Limits → ℕ → ℕ → List Event → List Event → ℕ → List Event → Type 0
IsDoneAt l c root from to i es = (es ≡ []) ⊎ (IsTarget root i to × (aborts : List Event)
    × AreOfHolders l c i from to aborts × ((es ≡ aborts) ⊎ (es ≡ aborts ++ Kill c i ∷ [])))

-- so it was done at each of these elements, one after another
abbrev pub AreInTurn : Limits → ℕ → ℕ → List Event → List Event → List ℕ → List Event → Type 0
AreInTurn l c root from to [] es = es ≡ []
AreInTurn l c root from to (i ∷ ids) es = (own : List Event) × (rest : List Event) × (es ≡ own ++ rest)
    × IsDoneAt l c root from to i own × AreInTurn l c root from to ids rest

-- the pass has made these events, among them this many Kills; the root is a client's element, and its family
-- is settled: of it nothing is claimed or committed any more, and nothing is born. It was at one element
-- after the other, in the order of a walk through the whole family: always the least id that the walk had
-- come to and not gone on from
pub record Cancels (l : Limits) (root killed : ℕ) (old new : PassShown) : Type 0 where
  pub events : List Event
  pub counted : kills_among events ≡ killed
  pub own : AreOfCancel l old.number root old.seen new.seen events
  pub mine : new.mine ≡ old.mine ++ events
  pub open_unit : new.open_unit ≡ old.open_unit
  pub run : KeepsRun old new
  pub request : IsRequest new.seen root
  pub settled : IsSettledFamily l.attempts new.seen root
  pub walk : List ℕ
  pub in_order : IsWalk l.attempts new.seen root [] walk
  pub whole : (i : ℕ) → IsReached l.attempts new.seen root walk i → In i walk
  pub turns : AreInTurn l old.number root old.seen new.seen walk events

-- why a cancel was refused: at a point the root was no client's element
abbrev pub CancelFails : ℕ → PassShown → PassShown → Refusal → Type 0
CancelFails root old new e = (e ≡ refusals.NotThere) × IsQuiet old new
    × AtPoint old new (λ h. ¬ IsRequest h root)
