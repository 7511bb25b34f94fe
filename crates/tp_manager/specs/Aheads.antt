-- What a walk has come to and not gone on from: two runs of rows, or a set of rows as bits.
use Rattle.std.specs.Prelude.{◌≡◌, ◌≢◌, ◌⊎◌, ◌↔◌, ℕ, ◌<◌, ◌≤◌, ◌==◌, cond, true, false, Option, Some, None}
use Rattle.std.specs.Prelude.{List}
use Rattle.tp_manager.specs.declared.ahead.Ahead.{Ahead}
use Rattle.tp_manager.specs.RowSets.{Has, IsEmpty}

-- row i is one of those from `first` on and before `end`
abbrev pub InRun : ℕ → ℕ → ℕ → Type 0
InRun first end i = (first ≤ i) × (i < end)

-- row i is in one of the two runs
abbrev pub InRuns : Ahead → ℕ → Type 0
InRuns a i = InRun a.next a.end i ⊎ InRun a.far a.far_end i

-- row i is ahead: in one of the runs, or in the set
abbrev pub IsAhead : Ahead → List ℕ → ℕ → Type 0
IsAhead a words i = InRuns a i ⊎ Has words i

-- row i was the least of some rows, and all others of them are left
abbrev pub IsTaken : (ℕ → Type 0) → (ℕ → Type 0) → ℕ → Type 0
IsTaken Old New i = (Old i × ((j : ℕ) → Old j → i ≤ j)) × ((j : ℕ) → New j ↔ (Old j × (j ≢ i)))

-- the first run is before the second, and all their rows are such as a set can have
pub record AreSorted (a : Ahead) : Type 0 where
  pub after : a.next < a.end → a.far < a.far_end → a.end ≤ a.far
  pub inside : (a.next < a.end → a.end ≤ 12288) × (a.far < a.far_end → a.far_end ≤ 12288)

-- and either the set is empty, or both runs are
pub record IsSorted (a : Ahead) (words : List ℕ) : Type 0 where
  pub runs : AreSorted a
  pub none : a.more ≡ false → IsEmpty words
  pub more : a.more ≡ true → (a.end ≤ a.next) × (a.far_end ≤ a.far)

-- the id that a number stands for: the greatest number stands for none
abbrev pub id_if_any : ℕ → Option ℕ
id_if_any n = cond (n == 4294967295) None (Some n)
