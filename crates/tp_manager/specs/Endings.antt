-- What a cancel does on its way. In each definition l are the table's limits, root is the id of the request,
-- v is the view before, and w the view after.
use Rattle.std.specs.Prelude.{◌≡◌, ◌⊎◌, ℕ, ◌+◌, ◌<◌, ◌≤◌, Bool, true, Some, List, [], ◌∷◌, ◌++◌, length}
use Rattle.std.specs.Prelude.{sum_by}
use Rattle.std.specs.Prelude.{if◌then◌else◌}
use Rattle.tp_model.specs.declared.types.TheConstants.{REPLY_STAGE}
use Rattle.tp_model.specs.declared.types.Element.{Element}
use Rattle.tp_model.specs.declared.types.Limits.{Limits}
use Rattle.tp_model.specs.declared.types.Status.TheVariants as statuses
use Rattle.tp_model.specs.declared.event.Event.{Event}
use Rattle.tp_model.specs.declared.event.Event.TheVariants.{Kill}
use Rattle.tp_model.specs.History.{In, UnitClaim, Committed, born, claim_of, element_of, end_of, status_of}
use Rattle.tp_model.specs.Families.{IsSettledFamily}
use Rattle.tp_model.specs.Orders.{IsReached, IsWalk}
use Rattle.tp_rule.specs.Views.{hand}
use Rattle.tp_rule.specs.declared.view.View.{View}
use Rattle.tp_manager.specs.declared.cancelling.CancelEnd.{CancelEnd}
use Rattle.tp_manager.specs.declared.cancelling.CancelEnd.TheVariants.{Killed, Outputs, Before}
use Rattle.tp_manager.specs.Bounds.{end_steps_at}
use Rattle.tp_manager.specs.Cancels.{AreInTurn, AreOfCancel, IsDoneAt}
use Rattle.tp_manager.specs.Families.{Reached, Tree}
use Rattle.tp_manager.specs.CallSteps.{Gained}

-- the elements that they kill, one after another
abbrev pub one_killed : Event → List ℕ
one_killed (Kill c i) = i ∷ []
one_killed other = []

abbrev pub killed_in : List Event → List ℕ
killed_in [] = []
killed_in (e ∷ h) = one_killed e ++ killed_in h

-- in at most n steps the pass has made the events es, all of them of a cancel
pub record Swept (l : Limits) (n root : ℕ) (es : List Event) (v w : View) : Type 0 where
  pub gained : Gained l n es v w
  pub own : AreOfCancel l (hand v).number root v.seen w.seen es

-- the elements that a cancel killed at element i
abbrev pub killed_there : ℕ → CancelEnd → List ℕ
killed_there i Killed = i ∷ []
killed_there i other = []

-- no unit takes the element: it was killed, or is a reply
abbrev pub IsUnworked : Limits → ℕ → List Event → Type 0
IsUnworked l i h = (status_of l.attempts h i ≡ statuses.Killed) ⊎ ((x : Element) × (element_of h i ≡ Some x)
    × (x.stage ≡ REPLY_STAGE))

-- what is so of element i where a cancel came to this
abbrev pub IsEnded : Limits → ℕ → List Event → CancelEnd → Type 0
IsEnded l i h Killed = IsUnworked l i h
IsEnded l i h Before = IsUnworked l i h
IsEnded l i h (Outputs first count) = (u : ℕ) × (t : UnitClaim) × (claim_of h u ≡ Some t) × (t.item ≡ i)
    × (status_of l.attempts h i ≡ statuses.Consumed u) × (end_of h u ≡ Some (Committed first count))

-- the cancel came to this at element i
pub record EndsAt (l : Limits) (n root i : ℕ) (r : CancelEnd) (v w : View) : Type 0 where
  pub events : List Event
  pub swept : Swept l n root events v w
  pub killed : killed_in events ≡ killed_there i r
  pub at : IsDoneAt l (hand v).number root v.seen w.seen i events
  pub is : IsEnded l i w.seen r

-- element i is done with: no unit takes it, or one has consumed it, and the walk has come to each of its
-- outputs
abbrev pub IsWalkedOut : Limits → (ℕ → Type 0) → List Event → ℕ → Type 0
IsWalkedOut l Has h i = IsUnworked l i h ⊎ ((u : ℕ) × (first : ℕ) × (count : ℕ)
    × (status_of l.attempts h i ≡ statuses.Consumed u)
    × (end_of h u ≡ Some (Committed first count)) × ((j : ℕ) → first ≤ j → j < first + count → Has j))

-- what a cancel makes at the elements from which it has gone on
abbrev pub gone_steps : Limits → (ℕ → Bool) → List Event → ℕ
gone_steps l gone h = sum_by (λ x. if gone x.id then end_steps_at l x else 0) (born h)

-- a cancel on its way: it has gone on from k elements, those of this walk, which are done with, and has
-- killed some of them
pub record Cancelling (l : Limits) (root k killed : ℕ) (Left : ℕ → Type 0) (v w : View) : Type 0 where
  pub gone : ℕ → Bool
  pub tree : Tree l root k Left gone w.seen
  pub walk : List ℕ
  pub walked : (i : ℕ) → gone i ≡ true → In i walk
  pub only : (i : ℕ) → In i walk → gone i ≡ true
  pub up : (i : ℕ) → Reached Left gone i → IsReached l.attempts w.seen root walk i
  pub in_order : IsWalk l.attempts w.seen root [] walk
  pub done : (i : ℕ) → gone i ≡ true → IsWalkedOut l (Reached Left gone) w.seen i
  pub events : List Event
  pub swept : Swept l (gone_steps l gone w.seen) root events v w
  pub counted : length (killed_in events) ≡ killed
  pub turns : AreInTurn l (hand v).number root v.seen w.seen walk events
  pub few : killed ≤ k

-- the whole of it
pub record CancelsIn (l : Limits) (n root killed : ℕ) (v w : View) : Type 0 where
  pub events : List Event
  pub swept : Swept l n root events v w
  pub counted : length (killed_in events) ≡ killed
  pub walk : List ℕ
  pub in_order : IsWalk l.attempts w.seen root [] walk
  pub whole : (i : ℕ) → IsReached l.attempts w.seen root walk i → In i walk
  pub turns : AreInTurn l (hand v).number root v.seen w.seen walk events
  pub settled : IsSettledFamily l.attempts w.seen root
