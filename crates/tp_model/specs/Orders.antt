-- The order in which a walk goes through a request's family.
use Rattle.std.specs.Prelude.{◌≡◌, ◌⊎◌, ℕ, ◌+◌, ◌<◌, ◌≤◌, Some, List, [], ◌∷◌, ◌++◌}
use Rattle.tp_model.specs.declared.event.Event.{Event}
use Rattle.tp_model.specs.declared.types.Status.TheVariants.{Consumed}
use Rattle.tp_model.specs.History.{In, Committed, end_of, status_of}

-- the unit that consumed element i has made element j
pub record LeadsTo (limit : ℕ) (h : List Event) (i j : ℕ) : Type 0 where
  pub unit : ℕ
  pub consumed : status_of limit h i ≡ Consumed unit
  pub first : ℕ
  pub count : ℕ
  pub ended : end_of h unit ≡ Some (Committed first count)
  pub low : first ≤ j
  pub high : j < first + count

-- a walk that begins at the root, and has gone on from these elements, has come to element j
abbrev pub IsReached : ℕ → List Event → ℕ → List ℕ → ℕ → Type 0
IsReached limit h root gone j = (j ≡ root) ⊎ ((i : ℕ) × In i gone × LeadsTo limit h i j)

-- and goes on from element i next: the least that it has come to and not gone on from
pub record IsNext (limit : ℕ) (h : List Event) (root : ℕ) (gone : List ℕ) (i : ℕ) : Type 0 where
  pub reached : IsReached limit h root gone i
  pub fresh : ¬ In i gone
  pub least : (j : ℕ) → IsReached limit h root gone j → ¬ In j gone → i ≤ j

-- so it goes on from each of these, one after another, after those from which it has gone on
abbrev pub IsWalk : ℕ → List Event → ℕ → List ℕ → List ℕ → Type 0
IsWalk limit h root gone [] = Unit {0}
IsWalk limit h root gone (i ∷ ids) = IsNext limit h root gone i × IsWalk limit h root (gone ++ i ∷ []) ids

-- the first list is some of the second, in the same order
abbrev pub AreSomeOf : List ℕ → List ℕ → Type 0
AreSomeOf [] ys = Unit {0}
AreSomeOf (x ∷ xs) [] = ⊥
AreSomeOf (x ∷ xs) (y ∷ ys) = ((x ≡ y) × AreSomeOf xs ys) ⊎ AreSomeOf (x ∷ xs) ys
