-- In which order calls were made, as far as a program can tell, and how their answers keep it.
use Rattle.std.specs.Prelude.{◌≡◌, ◌⊎◌, ℕ, ◌<◌, ◌≤◌, List, [], ◌∷◌, ◌++◌, Some, IsPermutation}
use mathlib.Core.List.{IsPrefix}
use Rattle.tp_model.specs.declared.types.Element.{Element}
use Rattle.tp_model.specs.declared.types.Limits.{Limits}
use Rattle.tp_model.specs.declared.event.Event.{Event}
use Rattle.tp_model.specs.declared.event.Event.TheVariants.{Claim, Enqueue, Kill}
use Rattle.tp_model.specs.declared.types.Look.{Look}
use Rattle.tp_model.specs.History.{In, IsUnborn, element_of, status_of}
use Rattle.tp_model.specs.Passes.{IsPoint}
use Rattle.tp_model.specs.Steps.{IsLegal}
use Rattle.tp_manager.specs.Calls.{Adds, AtPoint, Follows, FoundNone, IsLook, IsWaiting, Reads, opening}
use Rattle.tp_manager.specs.Meetings.{Meets}
use Rattle.tp_manager.specs.Receipts.{FollowsReceipt, LeavesReceipt, ReceiptShown}
use Rattle.tp_manager.specs.Shown.{PassShown}

-- what a pass shows came before what a pass shows, the same one or another: by calls of one pass, by receipts
-- that were left and then followed, and by meetings
pub data Before : PassShown → PassShown → Type 0 where
  Same : {a : PassShown} → Before a a
  Called : {a b : PassShown} (n : ℕ) → Follows n a b → Before a b
  Told : {a b c d : PassShown} (receipt : ReceiptShown) → LeavesReceipt a b receipt
      → FollowsReceipt receipt c d → Before a d
  Met : {a b c d : PassShown} → Meets a b c d → Before a d
  MetBy : {a b c d : PassShown} → Meets a b c d → Before b c
  Then : {a b c : PassShown} → Before a b → Before b c → Before a c

-- what a call says: that it has made this event, that an element and its status are these, that no element
-- has this id, or that the one with this id doesn't wait
pub data Said : Type 0 where
  Made : Event → Said
  Found : Look → Said
  NotThere : ℕ → Said
  NotWaiting : ℕ → Said

-- what a manager of one thread says after the history h
abbrev pub IsSo : Limits → Said → List Event → Type 0
IsSo l (Made e) h = (before : List Event) × (h ≡ before ++ e ∷ []) × IsLegal l h
IsSo l (Found look) h = IsLook l look.element.id look h
IsSo l (NotThere id) h = IsUnborn h id
IsSo l (NotWaiting id) h = ¬ IsWaiting (status_of l.attempts h id)

-- a call: when it was made and when it returned, by a clock that no program sees, what its pass shows before
-- and after it, a thing that it says, and the point at which that is so
pub record Call : Type 0 where
  pub made : ℕ
  pub returned : ℕ
  pub old : PassShown
  pub new : PassShown
  pub said : Said
  pub point : List Event

-- it is one of a manager with these limits, whose passes have seen beginnings of the history h
pub record IsCallIn (l : Limits) (h : List Event) (c : Call) : Type 0 where
  pub takes_time : c.made ≤ c.returned
  pub steps : ℕ
  pub follows : Follows steps c.old c.new
  pub at_point : IsPoint (opening c.old c.new) c.new.seen c.point
  pub is_so : IsSo l c.said c.point
  pub within : IsPrefix c.new.seen h

-- what the clauses of calls name is said at a point: the event that a call has made, what it looked at, and
-- of a claim that was Idle each element of the stage that was born at its opening
pub record SaidAtPoints (l : Limits) : Type 0 where
  pub made : (n : ℕ) (e : Event) (old new : PassShown) → new.limits ≡ l → Follows n old new → Adds e old new
      → AtPoint old new (IsSo l (Made e))
  pub found : (id : ℕ) (look : Look) (old new : PassShown) → Reads l id old new look
      → AtPoint old new (IsSo l (Found look))
  pub idle : (stage : ℕ) (old new : PassShown) (x : Element) → FoundNone l stage old new
      → element_of (opening old new) x.id ≡ Some x → x.stage ≡ stage
      → AtPoint old new (IsSo l (NotWaiting x.id))

-- c had returned before d was made, and this can be told
abbrev pub Precedes : Call → Call → Type 0
Precedes c d = (c.returned < d.made) × Before c.new d.old

-- the points of these calls ascend in one history, and no call precedes one that stands before it
abbrev pub AreLinear : List Call → Type 0
AreLinear [] = Unit {0}
AreLinear (c ∷ calls) = ((d : Call) → In d calls → IsPrefix c.point d.point × ¬ Precedes d c)
    × AreLinear calls

-- linearizability, as far as a program can observe time: whatever calls these are, of whichever passes, and
-- whatever they say, they stand in one order in which the points at which that is so ascend in the one
-- history, and each call comes after all that precede it
abbrev pub Linearizable : Limits → Type 0
Linearizable l = (h : List Event) (calls : List Call) → ((c : Call) → In c calls → IsCallIn l h c)
    → (order : List Call) × IsPermutation calls order × AreLinear order

-- of two calls, of which the second was made after the first had returned, as can be told
pub record InOrder (a b c d : PassShown) : Type 0 where
  -- no point of the second is before a point of the first
  pub points : (p q : List Event) → IsPoint (opening a b) b.seen p → IsPoint (opening c d) d.seen q
      → IsPrefix p q
  -- what the first made is there at each point of the second
  pub made : (e : Event) (q : List Event) → Adds e a b → IsPoint (opening c d) d.seen q → In e q
  -- what the second makes stands behind all that the first had seen
  pub makes : (e : Event) (p : List Event) (adds : Adds e c d) → IsPoint (opening a b) b.seen p
      → IsPrefix p adds.before

-- so it is of any two
abbrev pub EachInOrder : Type 0
EachInOrder = (n m : ℕ) (a b c d : PassShown) → Follows n a b → Before b c → Follows m c d → InOrder a b c d

-- the event takes element i out of its queue
abbrev pub TakesOut : ℕ → Event → Type 0
TakesOut i e = ((c : ℕ) × (u : ℕ) × (n : ℕ) × (e ≡ Claim c u i n)) ⊎ ((c : ℕ) × (e ≡ Kill c i))

-- between two histories there is one that does
pub record TakenSince (i : ℕ) (from to : List Event) : Type 0 where
  pub since : List Event
  pub goes_on : to ≡ from ++ since
  pub event : Event
  pub among : In event since
  pub takes : TakesOut i event

-- what a client has submitted last is there, and waits
abbrev pub WaitsAtFirst : Limits → Type 0
WaitsAtFirst l = (before : List Event) (c : ℕ) (x : Element) → let h = before ++ Enqueue c x ∷ [] in
    IsLegal l h → (element_of h x.id ≡ Some x) × IsWaiting (status_of l.attempts h x.id)

-- an element that waits does so until it is taken out
abbrev pub WaitsTillTaken : Limits → Type 0
WaitsTillTaken l = (i : ℕ) (from to : List Event) → IsPrefix from to → IsWaiting (status_of l.attempts from i)
    → ¬ IsWaiting (status_of l.attempts to i) → TakenSince i from to

-- a claim of its stage by a pass that has seen it wait is Idle only where it was taken out since
abbrev pub IdleIfTaken : Limits → Type 0
IdleIfTaken l = (stage n : ℕ) (from : List Event) (old new : PassShown) (x : Element)
    → IsPrefix from old.seen → element_of from x.id ≡ Some x → x.stage ≡ stage
    → IsWaiting (status_of l.attempts from x.id) → Follows n old new → FoundNone l stage old new
    → TakenSince x.id from new.seen
