-- An index as the list of its places: each a group, and an id that stands in it.
use Rattle.std.specs.Prelude.{◌≡◌, ◌<◌, ◌≤◌, ◌^◌, ℕ, ◌==◌, ◌&&◌, not, Bool, true, false, Option, Some, None, List}
use Rattle.std.specs.Ordering.{nat_cmp, ordering_then}
use Rattle.std.specs.declared.cmp.Ordering.{Ordering}
use Rattle.std.specs.BTreeMap.{is_at}
use Rattle.std.specs.List.{list_any}
use Rattle.tp_store.specs.Elements.{is_group}

-- places are in the order of their groups, and in each group of their ids
abbrev pub place_cmp : ℕ × ℕ → ℕ × ℕ → Ordering
place_cmp p q = ordering_then (nat_cmp p.0 q.0) (nat_cmp p.1 q.1)

-- whether this id stands in this group
abbrev pub has : List (ℕ × ℕ) → ℕ → ℕ → Bool
has places group id = list_any (is_at (place_cmp (group, id))) places

-- whether these are the same group and the same id
abbrev pub is_place : ℕ → ℕ → ℕ → ℕ → Bool
is_place group id g i = group == g && id == i

-- the least id from this one on that stands in the group
abbrev pub IsFirstFrom : List (ℕ × ℕ) → ℕ → ℕ → Option ℕ → Type 0
IsFirstFrom places group from None = (i : ℕ) → from ≤ i → i < 2 ^ 64 → has places group i ≡ false
IsFirstFrom places group from (Some id) = (from ≤ id) × (has places group id ≡ true)
    × ((i : ℕ) → from ≤ i → i < id → has places group i ≡ false)

-- whether an id that goes from one group to another stands in one more
abbrev pub gains : Option ℕ → Option ℕ → Bool
gains from None = false
gains from (Some group) = not (is_group group from)
