-- The laws of legal histories.
use Rattle.std.specs.Prelude.{◌≡◌, ◌≢◌, ◌⊎◌, ℕ, ◌+◌, ◌≤◌, Option, Some, List, [], ◌∷◌, ◌++◌, Contains}
use Rattle.std.specs.Option.{option_map}
use mathlib.Core.List.{IsPrefix}
use Rattle.tp_model.specs.declared.types.Element.{Element}
use Rattle.tp_model.specs.declared.types.Limits.{Limits}
use Rattle.tp_model.specs.declared.types.TheConstants.{MAX_ROUNDS}
use Rattle.tp_model.specs.declared.types.Status.{Status}
use Rattle.tp_model.specs.declared.types.Status.TheVariants.{Waiting, Held, Consumed, Parked, Killed}
use Rattle.tp_model.specs.declared.event.Event.{Event}
use Rattle.tp_model.specs.declared.event.Event.TheVariants.{Claim, Commit, Kill}
use Rattle.tp_model.specs.History.{born, element_of, status_of, rounds, UnitClaim, claim_of, UnitEnd, end_of}
use Rattle.tp_model.specs.History.{IsSettled}
use Rattle.tp_model.specs.Words.{claim_word, round_in, word_status, Rises}
use Rattle.tp_model.specs.Steps.{IsLegal}

-- the element that unit u claimed
abbrev pub item_of : List Event → ℕ → Option ℕ
item_of h u = option_map (λ (t : UnitClaim). t.item) (claim_of h u)

-- no two Commits are of units that claimed the same element
abbrev pub ConsumedOnce : Type 0
ConsumedOnce =
    (l : Limits) (before between after : List Event) (c d u v i : ℕ) (outs more : List Element)
    → let h = (before ++ Commit c u outs ∷ between) ++ Commit d v more ∷ after in
    IsLegal l h → item_of h u ≡ Some i → item_of h v ≢ Some i

-- after Kill c i there is no Claim of i
abbrev pub NeverClaimedAfterKill : Type 0
NeverClaimedAfterKill =
    (l : Limits) (before between after : List Event) (c d u i n : ℕ)
    → ¬ IsLegal l ((before ++ Kill c i ∷ between) ++ Claim d u i n ∷ after)

-- and no Commit of a unit that claimed i
abbrev pub NeverCommittedAfterKill : Type 0
NeverCommittedAfterKill =
    (l : Limits) (before between after : List Event) (c d u i : ℕ) (outs : List Element)
    → let h = (before ++ Kill c i ∷ between) ++ Commit d u outs ∷ after in
    IsLegal l h → item_of h u ≢ Some i

-- and no second Kill of i
abbrev pub NeverKilledAfterKill : Type 0
NeverKilledAfterKill =
    (l : Limits) (before between after : List Event) (c d i : ℕ)
    → ¬ IsLegal l ((before ++ Kill c i ∷ between) ++ Kill d i ∷ after)

-- how one event may change a status
abbrev pub Moves : Status → Status → Type 0
Moves (Waiting n) s = ((u : ℕ) × (s ≡ Held u (n + 1))) ⊎ (s ≡ Killed)
Moves (Held u n) s = (s ≡ Consumed u) ⊎ ((s ≡ Waiting n) ⊎ (s ≡ Parked n))
Moves (Parked n) s = (s ≡ Waiting 0) ⊎ (s ≡ Killed)
Moves (Consumed u) s = ⊥
Moves Killed s = ⊥

-- one event leaves a status, or changes it in one of those ways
abbrev pub StatusSteps : Type 0
StatusSteps =
    (l : Limits) (h : List Event) (e : Event) (i : ℕ) → IsLegal l (h ++ e ∷ [])
    → let old = status_of l.attempts h i in
    let new = status_of l.attempts (h ++ e ∷ []) i in
    (new ≡ old) ⊎ Moves old new

-- a born element stays born, with the same contents, in every history that begins with this one
abbrev pub BornStays : Type 0
BornStays =
    (l : Limits) (h g : List Event) (i : ℕ) (e : Element)
    → IsLegal l g → IsPrefix h g → element_of h i ≡ Some e → element_of g i ≡ Some e

-- a status is what is read off the claim word and its unit's end
abbrev pub StatusByWords : Type 0
StatusByWords = (l : Limits) (h : List Event) (i : ℕ) → IsLegal l h
    → status_of l.attempts h i ≡ word_status l.attempts h (claim_word h i)

-- a claim word says how many rounds the element was given, which is at most three
abbrev pub RoundsByWords : Type 0
RoundsByWords = (l : Limits) (h : List Event) (i : ℕ) → IsLegal l h
    → (round_in (claim_word h i) ≡ rounds h i) × (rounds h i ≤ MAX_ROUNDS)

-- in a longer legal history the claim word of an element is the same, or a later one
abbrev pub WordsRise : Type 0
WordsRise = (l : Limits) (h g : List Event) (i : ℕ) → IsLegal l g → IsPrefix h g → Rises (claim_word h i)
    (claim_word g i)

-- a consumed or killed element stays so
abbrev pub SettledStays : Type 0
SettledStays = (l : Limits) (h g : List Event) (i : ℕ) → IsLegal l g → IsPrefix h g
    → IsSettled (status_of l.attempts h i) → status_of l.attempts g i ≡ status_of l.attempts h i

-- who claimed a unit, and how it ended, stays
abbrev pub UnitsStay : Type 0
UnitsStay = (h g : List Event) (u : ℕ) → IsPrefix h g
    → ((t : UnitClaim) → claim_of h u ≡ Some t → claim_of g u ≡ Some t)
    × ((x : UnitEnd) → end_of h u ≡ Some x → end_of g u ≡ Some x)

-- no two born elements have one id
abbrev pub BornOnce : Type 0
BornOnce = (l : Limits) (h : List Event) (e : Element) → IsLegal l h → Contains (born h) e
    → element_of h e.id ≡ Some e
