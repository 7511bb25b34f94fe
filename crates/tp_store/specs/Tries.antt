-- How often an element was ever taken.
use Rattle.std.specs.Prelude.{◌≡◌, ◌⊎◌, ℕ, ◌+◌, ◌<◌, Some, List}
use Rattle.tp_store.specs.declared.element.Element.{Element}
use Rattle.tp_store.specs.declared.element.Status.{Status}
use Rattle.tp_store.specs.declared.element.Status.TheVariants.{Waiting, Held, Parked}
use Rattle.tp_store.specs.Elements.{element_at}
use Rattle.tp_store.specs.Runs.{Call, run}
use Rattle.tp_store.specs.Soundness.{IsSound}
use Rattle.tp_store.specs.State.{State}

-- in its round, while it is alive
abbrev pub taken_in : Status → ℕ
taken_in (Waiting n) = n
taken_in (Held u n) = n
taken_in (Parked n) = n
taken_in other = 0

-- in all its rounds: where a unit holds it this is which try at it the unit is
abbrev pub tries_of : Element → ℕ
tries_of e = e.earlier + taken_in e.status

-- A try comes once: whoever holds an element later is the same unit, in the same try, or a later try.
abbrev pub TriesComeOnce : Type 0
TriesComeOnce = (calls : List Call) (s : State) (id u v m n : ℕ) (old now : Element) → IsSound s
    → element_at id s.elements ≡ Some old → old.status ≡ Held u m
    → element_at id (run calls s).elements ≡ Some now → now.status ≡ Held v n
    → ((v ≡ u) × (tries_of now ≡ tries_of old)) ⊎ (tries_of old < tries_of now)
