-- Registers that are read one after the other.
use Rattle.std.proofs.Common.{◌≡◌, ℕ, zero, suc, ◌+◌, ◌≤◌, List, [], ◌∷◌, ◌++◌, length, take, ap, sym, ◌∙◌, arith, Some, None}
use Rattle.std.specs.Prelude.{slice_get}
use Rattle.std.proofs.lemmas.List.{take_more, take_all}
use Rattle.std.proofs.lemmas.Option.{none-some, slice_get_within, get_or_from_slice_get}

-- one more
pub read_more : (xs : List ℕ) (i v : ℕ) → slice_get xs i ≡ Some v → take (i + 1) xs ≡ take i xs ++ v ∷ []
read_more xs i v e = take_more xs i 0 (slice_get_within xs i v e) ∙ ap (λ (x : ℕ). take i xs ++ x ∷ []) (get_or_from_slice_get xs i v 0 e)

-- none past the last
past : (xs : List ℕ) (i : ℕ) → slice_get xs i ≡ None → length xs ≤ i
past [] i e = omega arith
past (x ∷ xs) zero e = absurd (none-some x (sym e))
past (x ∷ xs) (suc i) e = let le : length xs ≤ i = past xs i e in omega (arith, le)

pub read_past : (xs : List ℕ) (i : ℕ) → slice_get xs i ≡ None → take (i + 1) xs ≡ take i xs
read_past xs i e = let le : length xs ≤ i = past xs i e in take_all (i + 1) xs (omega (arith, le)) ∙ sym (take_all i xs le)
