-- What is so in each store that calls have led to.
use Rattle.std.specs.Prelude.{◌≡◌, ℕ, ◌<◌, ◌≤◌, Bool, true, false, Option, Some, None}
use Rattle.std.specs.Ordering.{nat_cmp}
use Rattle.std.specs.List.{AllByRecursion}
use Rattle.std.specs.List.Sorted.{IsStrictlySortedBy}
use Rattle.std.specs.Map.{keys_of}
use Rattle.tp_store.specs.declared.element.TheConstants.{MAX_ROUNDS, REPLY_STAGE}
use Rattle.tp_store.specs.declared.element.Element.{Element}
use Rattle.tp_store.specs.declared.element.Status.{Status}
use Rattle.tp_store.specs.declared.element.Status.TheVariants.{Held, Consumed, Parked}
use Rattle.tp_store.specs.Elements.{element_at}
use Rattle.tp_store.specs.Ends.{is_over}
use Rattle.tp_store.specs.State.{State}

-- the unit that holds or consumed an element
abbrev pub unit_in : Status → Option ℕ
unit_in (Held u n) = Some u
unit_in (Consumed u) = Some u
unit_in other = None

-- whether a reply may stand so: no unit holds it, and it isn't parked
abbrev pub is_for_reply : Status → Bool
is_for_reply (Held u n) = false
is_for_reply (Parked n) = false
is_for_reply other = true

-- its id was drawn, and no later than its request's; so were the units that it knows of
pub record IsSoundElement (s : State) (id : ℕ) (e : Element) : Type 0 where
  pub drawn : id < s.next
  pub root : e.root ≤ id
  pub rounds : e.rounds ≤ MAX_ROUNDS
  pub made_by : (u : ℕ) → e.by ≡ Some u → u < s.units
  pub taken_by : (u : ℕ) → unit_in e.status ≡ Some u → u < s.units
  pub reply : e.stage ≡ REPLY_STAGE → is_for_reply e.status ≡ true

-- the request has come, and no work on it goes on
abbrev pub HasEnded : State → ℕ → Type 0
HasEnded s root = (root < s.next) × (is_over root s.elements ≡ true)

-- the elements are in the order of their ids, each of them is sound, and what is noted as ended has ended
pub record IsSound (s : State) : Type 0 where
  pub sorted : IsStrictlySortedBy nat_cmp (keys_of s.elements)
  pub each : (id : ℕ) (e : Element) → element_at id s.elements ≡ Some e → IsSoundElement s id e
  pub ended : AllByRecursion (HasEnded s) s.ended
