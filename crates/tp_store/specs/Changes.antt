-- How one call may change a store.
use Rattle.std.specs.Prelude.{◌≡◌, ◌⊎◌, ℕ, ◌+◌, ◌≤◌, true, false, Some, None, List}
use Rattle.tp_store.specs.declared.element.TheConstants.{REPLY_STAGE}
use Rattle.tp_store.specs.declared.element.Element.{Element}
use Rattle.tp_store.specs.declared.element.Status.{Status}
use Rattle.tp_store.specs.declared.element.Status.TheVariants.{Waiting, Held, Consumed, Parked, Killed}
use Rattle.tp_store.specs.declared.store.Limits.{Limits}
use Rattle.tp_store.specs.Elements.{element_at}
use Rattle.tp_store.specs.Ends.{is_over}
use Rattle.tp_store.specs.Runs.{after, Call, limits_after, run}
use Rattle.tp_store.specs.Soundness.{IsSound}
use Rattle.tp_store.specs.State.{State, start}

-- how the status of an element of a stage may change: a reply alone is consumed as it waits
abbrev pub Turns : ℕ → Status → Status → Type 0
Turns stage (Waiting n) new = ((u : ℕ) × (new ≡ Held u (n + 1))) ⊎ ((new ≡ Killed)
    ⊎ ((stage ≡ REPLY_STAGE) × (u : ℕ) × (new ≡ Consumed u)))
Turns stage (Held u n) new = (new ≡ Consumed u) ⊎ ((new ≡ Waiting n) ⊎ ((new ≡ Parked n) ⊎ (new ≡ Killed)))
Turns stage (Parked n) new = (new ≡ Waiting 0) ⊎ (new ≡ Killed)
Turns stage (Consumed u) new = ⊥
Turns stage Killed new = ⊥

-- one round more, where a parked element waits again
abbrev pub rounds_after : Status → Status → ℕ → ℕ
rounds_after (Parked m) (Waiting n) rounds = rounds + 1
rounds_after old new rounds = rounds

-- the attempts of a round that is over count among the earlier ones then
abbrev pub earlier_after : Status → Status → ℕ → ℕ
earlier_after (Parked m) (Waiting n) earlier = earlier + m
earlier_after old new earlier = earlier

-- an element after a call: its status may have changed so, and nothing else but its rounds and what they count
pub record Goes (old new : Element) : Type 0 where
  pub contents : new ≡ record old { status = new.status; rounds = new.rounds; earlier = new.earlier }
  pub status : (new.status ≡ old.status) ⊎ Turns old.stage old.status new.status
  pub rounds : new.rounds ≡ rounds_after old.status new.status old.rounds
  pub earlier : new.earlier ≡ earlier_after old.status new.status old.earlier

-- the element e, which had this id, is there still, as one call may leave it
pub record Remains (new : State) (id : ℕ) (e : Element) : Type 0 where
  pub now : Element
  pub found : element_at id new.elements ≡ Some now
  pub goes : Goes e now

-- it is forgotten, and no work on its request goes on
pub record IsForgotten (new : State) (id : ℕ) (e : Element) : Type 0 where
  pub gone : element_at id new.elements ≡ None
  pub over : is_over e.root new.elements ≡ true

-- an element that is born has a new id, and is a request of its own or of one on which work goes on
pub record IsBirth (old : State) (id : ℕ) (e : Element) : Type 0 where
  pub drawn : old.next ≤ id
  pub request : (e.root ≡ id) ⊎ (is_over e.root old.elements ≡ false)

-- a store behind a call
pub record Follows (old new : State) : Type 0 where
  pub next : old.next ≤ new.next
  pub units : old.units ≤ new.units
  pub stays : (id : ℕ) (e : Element) → element_at id old.elements ≡ Some e
      → Remains new id e ⊎ IsForgotten new id e
  pub births : (id : ℕ) (e : Element) → element_at id new.elements ≡ Some e → element_at id old.elements ≡ None
      → IsBirth old id e

-- each call leaves a sound store, which follows, and one alone changes the limits
abbrev pub CallsFollow : Type 0
CallsFollow = (call : Call) (s : State) → IsSound s → IsSound (after call s) × Follows s (after call s)
    × ((after call s).limits ≡ limits_after call s)

-- each run does
abbrev pub RunsAreSound : Type 0
RunsAreSound = (limits : Limits) (calls : List Call) → IsSound (run calls (start limits))
