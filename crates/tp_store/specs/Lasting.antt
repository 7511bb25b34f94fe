-- What lasts over runs of calls: ids, contents, what is settled, and what work goes on with.
use Rattle.std.specs.Prelude.{◌≡◌, ℕ, ◌<◌, ◌≤◌, true, false, Some, None, List}
use Rattle.tp_store.specs.declared.element.Element.{Element}
use Rattle.tp_store.specs.Changes.{Remains}
use Rattle.tp_store.specs.Elements.{element_at, is_alive}
use Rattle.tp_store.specs.Ends.{is_over}
use Rattle.tp_store.specs.Runs.{after, Call, run}
use Rattle.tp_store.specs.Soundness.{IsSound}
use Rattle.tp_store.specs.State.{State}

-- an element that is found later by the same id is the same one, but for its status and its rounds
abbrev pub ContentsLast : Type 0
ContentsLast = (calls : List Call) (s : State) (id : ℕ) (old now : Element) → IsSound s
    → element_at id s.elements ≡ Some old → element_at id (run calls s).elements ≡ Some now
    → now ≡ record old { status = now.status; rounds = now.rounds; earlier = now.earlier }

-- and one that was consumed or killed is wholly the same
abbrev pub SettledLasts : Type 0
SettledLasts = (calls : List Call) (s : State) (id : ℕ) (old now : Element) → IsSound s
    → element_at id s.elements ≡ Some old → is_alive old.status ≡ false
    → element_at id (run calls s).elements ≡ Some now → now ≡ old

-- an id that was drawn is never used again
abbrev pub IdsLast : Type 0
IdsLast = (calls : List Call) (s : State) (id : ℕ) → IsSound s → id < s.next
    → element_at id s.elements ≡ None → element_at id (run calls s).elements ≡ None

-- a request on which no work goes on stays so
abbrev pub OverLasts : Type 0
OverLasts = (calls : List Call) (s : State) (root : ℕ) → IsSound s → root < s.next
    → is_over root s.elements ≡ true → is_over root (run calls s).elements ≡ true

-- while work on a request goes on, each element that it had is there
abbrev pub FamiliesLast : Type 0
FamiliesLast = (calls : List Call) (s : State) (id : ℕ) (e : Element) → IsSound s
    → element_at id s.elements ≡ Some e → is_over e.root (run calls s).elements ≡ false
    → (now : Element) × (element_at id (run calls s).elements ≡ Some now)

-- where at least one request is kept behind its end, a call forgets no element of one on which work went on
abbrev pub AliveStays : Type 0
AliveStays = (call : Call) (s : State) (id : ℕ) (e : Element) → IsSound s → 1 ≤ s.limits.keep
    → element_at id s.elements ≡ Some e → is_over e.root s.elements ≡ false → Remains (after call s) id e
