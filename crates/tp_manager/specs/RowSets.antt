-- Sets of rows as bits.
use Rattle.std.specs.Prelude.{◌≡◌, ◌↔◌, ℕ, ◌/◌, ◌%◌, ◌<◌, ◌≤◌, List, slice_index}
use Rattle.std.specs.Int.{bit_at}

-- number i is in the set: bit i % 64 of word i / 64 is set
abbrev pub Has : List ℕ → ℕ → Type 0
Has words i = bit_at (slice_index words (i / 64)) (i % 64) ≡ 1

-- nothing is in it
abbrev pub IsEmpty : List ℕ → Type 0
IsEmpty words = (i : ℕ) → ¬ Has words i

-- i is the least number in it
abbrev pub IsLeast : List ℕ → ℕ → Type 0
IsLeast words i = Has words i × ((j : ℕ) → Has words j → i ≤ j)

-- the groups have the number of each word in which a bit is set, and no other
abbrev pub IsSummed : List ℕ → List ℕ → Type 0
IsSummed words groups = (w : ℕ) → Has groups w ↔ (0 < slice_index words w)
