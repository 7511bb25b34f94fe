-- What the checks of a rollover find. g is the new manager's history.
use Rattle.std.specs.Prelude.{◌≡◌, ◌≢◌, ◌⊎◌, ◌↔◌, ℕ, ◌+◌, ◌<◌, ◌≤◌, true, Option, None, Some, List, []}
use Rattle.std.specs.Prelude.{◌∷◌, slice_index_or}
use Rattle.tp_model.specs.declared.types.Counts.{Counts}
use Rattle.tp_model.specs.declared.types.Element.{Element}
use Rattle.tp_model.specs.declared.types.Limits.{Limits}
use Rattle.tp_model.specs.declared.event.Event.{Event}
use Rattle.tp_model.specs.Counts.{is_consumed}
use Rattle.tp_model.specs.History.{In, IsBorn, status_of}
use Rattle.tp_model.specs.Steps.{rows_of}
use Rattle.tp_rollover.specs.declared.moved.Moved.{Moved}

-- these numbers ascend
abbrev pub AscendFrom : (Moved → ℕ) → ℕ → List Moved → Type 0
AscendFrom id low [] = Unit {0}
AscendFrom id low (m ∷ ms) = (low ≤ id m) × AscendFrom id (id m + 1) ms

-- element i is named
abbrev pub IsNamed : (Moved → ℕ) → ℕ → List Moved → Type 0
IsNamed id i moved = (m : Moved) × In m moved × (id m ≡ i)

-- each that is born there is named or consumed
abbrev pub AreOnly : Limits → List Moved → List Event → Type 0
AreOnly l moved g = (y : Element) → IsBorn g y → y.id < rows_of l
    → IsNamed (λ m. m.new) y.id moved ⊎ (is_consumed (status_of l.attempts g y.id) ≡ true)

-- so many of these elements wait or are parked, and all others are consumed
pub record CountsOnly (n : ℕ) (c : Counts) : Type 0 where
  pub alive : c.waiting + c.parked ≡ n
  pub held : c.held ≡ 0
  pub killed : c.killed ≡ 0

-- the ids ascend in both managers
abbrev pub MovedAscend : List Moved → Type 0
MovedAscend moved = AscendFrom (λ m. m.old) 0 moved × AscendFrom (λ m. m.new) 0 moved

-- two of these have one root in the new manager exactly where they had in the old one
abbrev pub AreFamilies : List Moved → Type 0
AreFamilies moved = (m n : Moved) → In m moved → In n moved
    → (m.old_root ≡ n.old_root) ↔ (m.new_root ≡ n.new_root)

-- the place has this value, those that had one have it still, and no other one has any
pub record HasPut (at value : ℕ) (old new : List (Option ℕ)) : Type 0 where
  pub there : slice_index_or new at None ≡ Some value
  pub kept : (j v : ℕ) → slice_index_or old j None ≡ Some v → slice_index_or new j None ≡ Some v
  pub only : (j v : ℕ) → slice_index_or new j None ≡ Some v
      → (slice_index_or old j None ≡ Some v) ⊎ ((j ≡ at) × (v ≡ value))

-- the place has another value
abbrev pub HasOther : ℕ → ℕ → List (Option ℕ) → Type 0
HasOther at value old = (v : ℕ) × (slice_index_or old at None ≡ Some v) × (v ≢ value)

-- each of these has a place in both tables: its new root by its old one, and its old root by its new one
pub record AreInTables (new_roots old_roots : List (Option ℕ)) (moved : List Moved) : Type 0 where
  pub forth : (m : Moved) → In m moved → slice_index_or new_roots m.old_root None ≡ Some m.new_root
  pub back : (m : Moved) → In m moved → slice_index_or old_roots m.new_root None ≡ Some m.old_root

-- and nothing else stands in them
pub record AreFrom (new_roots old_roots : List (Option ℕ)) (moved : List Moved) : Type 0 where
  pub forth : (root new_root : ℕ) → slice_index_or new_roots root None ≡ Some new_root
      → (m : Moved) × In m moved × (m.old_root ≡ root) × (m.new_root ≡ new_root)
  pub back : (root old_root : ℕ) → slice_index_or old_roots root None ≡ Some old_root
      → (m : Moved) × In m moved × (m.new_root ≡ root) × (m.old_root ≡ old_root)
