-- The queues as the list of their places: a set of ids for each stage, one after another.
use Rattle.std.specs.Prelude.{◌≡◌, ◌≤◌, ◌<◌, ℕ, ◌+◌, ◌&&◌, ◌||◌, ◌==◌, nat_le, nat_lt, Bool, true, false, Option, Some, None}
use Rattle.std.specs.Prelude.{List, [], ◌∷◌, ◌++◌}
use Rattle.std.specs.Ordering.{nat_cmp}
use Rattle.std.specs.BTreeMap.{is_at}
use Rattle.std.specs.BTreeSet.{BTreeSet}
use Rattle.std.specs.List.{list_any}
use Rattle.std.specs.List.Sorted.{IsStrictlySortedBy}
use Rattle.tp_store.specs.Indexes.{has, place_cmp}

-- the places of these ids in one queue
abbrev pub places_of : ℕ → List ℕ → List (ℕ × ℕ)
places_of queue [] = []
places_of queue (id ∷ ids) = (queue, id) ∷ places_of queue ids

-- the places of queues from this one on
abbrev pub places_from : ℕ → List (BTreeSet ℕ) → List (ℕ × ℕ)
places_from queue [] = []
places_from queue (set ∷ sets) = places_of queue set.keys ++ places_from (queue + 1) sets

-- the least of these ids from one on
abbrev pub IsLeastFrom : List ℕ → ℕ → Option ℕ → Type 0
IsLeastFrom ids from None = (i : ℕ) → from ≤ i → list_any (is_at (nat_cmp i)) ids ≡ false
IsLeastFrom ids from (Some id) = (from ≤ id) × (list_any (is_at (nat_cmp id)) ids ≡ true)
    × ((i : ℕ) → from ≤ i → i < id → list_any (is_at (nat_cmp i)) ids ≡ false)

-- these are the ids from one on that stand in a group, in order
abbrev pub AreIdsFrom : List (ℕ × ℕ) → ℕ → ℕ → List ℕ → Type 0
AreIdsFrom places group from ids = IsStrictlySortedBy nat_cmp ids
    × ((i : ℕ) → list_any (is_at (nat_cmp i)) ids ≡ (nat_le from i && has places group i))

-- whether a place is one of a group from an id on, or of a later group
abbrev pub is_place_from : ℕ → ℕ → ℕ → ℕ → Bool
is_place_from group from g i = nat_lt group g || (group == g && nat_le from i)

-- these are the places from one on, in order
abbrev pub ArePlacesFrom : List (ℕ × ℕ) → ℕ → ℕ → List (ℕ × ℕ) → Type 0
ArePlacesFrom places group from ps = IsStrictlySortedBy place_cmp ps
    × ((g i : ℕ) → list_any (is_at (place_cmp (g, i))) ps ≡ (is_place_from group from g i && has places g i))
