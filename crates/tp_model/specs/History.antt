-- What a history says of its elements and its units. A history is a list of events, from the oldest to the
-- newest.
use Rattle.std.specs.Prelude.{◌≡◌, ℕ, ◌+◌, ◌==◌, nat_lt, if◌then◌else◌, Option, Some, None, List, [], ◌∷◌}
use Rattle.std.specs.Prelude.{◌++◌, length, filter}
use Rattle.std.specs.List.{fold, find}
use Rattle.std.specs.Option.{option_or}
use Rattle.tp_model.specs.declared.types.Element.{Element}
use Rattle.tp_model.specs.declared.types.Status.{Status}
use Rattle.tp_model.specs.declared.types.Status.TheVariants.{Waiting, Held, Consumed, Parked, Killed}
use Rattle.tp_model.specs.declared.event.Event.{Event}
use Rattle.tp_model.specs.declared.event.Event.TheVariants.{Enqueue, Claim, Commit, Abort, Kill, Requeue}

-- the elements that an event makes
abbrev pub births : Event → List Element
births (Enqueue c e) = e ∷ []
births (Commit c u outs) = outs
births other = []

-- the elements that were born, in order
abbrev pub born : List Event → List Element
born [] = []
born (e ∷ h) = births e ++ born h

-- the born element with this id
abbrev pub element_of : List Event → ℕ → Option Element
element_of h i = find (λ e. e.id == i) (born h)

-- what f finds first
abbrev pub first : {A B : Type 0} → (A → Option B) → List A → Option B
first f [] = None
first f (x ∷ xs) = option_or (f x) (first f xs)

-- who took a unit, for which element, and for which time that element was taken
pub record UnitClaim : Type 0 where
  pub pass : ℕ
  pub item : ℕ
  pub attempt : ℕ

-- the claim of unit u that an event is
abbrev pub claim_by : ℕ → Event → Option UnitClaim
claim_by u (Claim c v i n) = if v == u then Some (record { pass = c; item = i; attempt = n }) else None
claim_by u other = None

-- the claim of unit u
abbrev pub claim_of : List Event → ℕ → Option UnitClaim
claim_of h u = first (claim_by u) h

-- how a unit ended: committed, with the first id and the number of its outputs, or aborted
pub data UnitEnd : Type 0 where
  Committed : ℕ → ℕ → UnitEnd
  Aborted : UnitEnd

-- the id of the first of these, or 0
abbrev pub first_id : List Element → ℕ
first_id [] = 0
first_id (e ∷ es) = e.id

-- the end of unit u that an event is
abbrev pub end_by : ℕ → Event → Option UnitEnd
end_by u (Commit c v outs) = if v == u then Some (Committed (first_id outs) (length outs)) else None
end_by u (Abort c v) = if v == u then Some Aborted else None
end_by u other = None

-- how unit u ended: `None` is undecided
abbrev pub end_of : List Event → ℕ → Option UnitEnd
end_of h u = first (end_by u) h

-- the status after unit u has committed
abbrev pub committed : ℕ → Status → Status
committed u (Held v n) = if u == v then Consumed v else Held v n
committed u other = other

-- the status after unit u was aborted, where `limit` attempts are allowed
abbrev pub aborted : ℕ → ℕ → Status → Status
aborted limit u (Held v n) = if u == v then (if nat_lt n limit then Waiting n else Parked n) else Held v n
aborted limit u other = other

-- the status of element i after one more event
abbrev pub status_after : ℕ → ℕ → Status → Event → Status
status_after limit i s (Claim c u j n) = if j == i then Held u n else s
status_after limit i s (Commit c u outs) = committed u s
status_after limit i s (Abort c u) = aborted limit u s
status_after limit i s (Kill c j) = if j == i then Killed else s
status_after limit i s (Requeue c j r) = if j == i then Waiting 0 else s
status_after limit i s other = s

-- the status of element i: at its birth it waits, with no attempt so far
abbrev pub status_of : ℕ → List Event → ℕ → Status
status_of limit h i = fold (status_after limit i) (Waiting 0) h

-- how many more rounds than these element i was given by an event
abbrev pub rounds_after : ℕ → ℕ → Event → ℕ
rounds_after i k (Requeue c j r) = if j == i then k + 1 else k
rounds_after i k other = k

-- how many rounds element i was given, beside the first
abbrev pub rounds : List Event → ℕ → ℕ
rounds h i = fold (rounds_after i) 0 h

-- a is one of the list, as a relation for inductions
pub data In {A : Type 0} (a : A) : List A → Type 0 where
  here : {xs : List A} → In a (a ∷ xs)
  there : {b : A} {xs : List A} → In a xs → In a (b ∷ xs)

-- x was born, and nothing with its id before it
abbrev pub IsBorn : List Event → Element → Type 0
IsBorn h x = element_of h x.id ≡ Some x

-- nothing with this id was born
abbrev pub IsUnborn : List Event → ℕ → Type 0
IsUnborn h i = element_of h i ≡ None

-- pass c took unit u, for element i, which was taken for the n-th time
abbrev pub IsClaim : List Event → ℕ → ℕ → ℕ → ℕ → Type 0
IsClaim h c u i n = claim_of h u ≡ Some (record { pass = c; item = i; attempt = n })

-- unit u was never taken
abbrev pub IsUnused : List Event → ℕ → Type 0
IsUnused h u = claim_of h u ≡ None

-- which pass an event is of
abbrev pub pass_of : Event → ℕ
pass_of (Enqueue c e) = c
pass_of (Claim c u i n) = c
pass_of (Commit c u outs) = c
pass_of (Abort c u) = c
pass_of (Kill c i) = c
pass_of (Requeue c i r) = c

-- the events of one pass
abbrev pub events_by : ℕ → List Event → List Event
events_by c h = filter (λ e. pass_of e == c) h

-- a consumed or killed element is settled
abbrev pub IsSettled : Status → Type 0
IsSettled (Consumed u) = Unit {0}
IsSettled Killed = Unit {0}
IsSettled other = ⊥
