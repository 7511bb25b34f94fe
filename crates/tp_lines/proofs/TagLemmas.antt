-- No more of a line than there is.
use Rattle.std.proofs.Common.{◌≡◌, ℕ, zero, suc, ◌≤◌, List, [], ◌∷◌, drop, length, take, refl, arith}
use Rattle.std.proofs.lemmas.List.{take_all}

pub no_more : (n : ℕ) (xs : List ℕ) → length xs ≤ n → take n xs ≡ xs
no_more n xs short = take_all n xs short

pub none_past : (n : ℕ) (xs : List ℕ) → length xs ≤ n → drop n xs ≡ []
none_past zero [] short = refl
none_past (suc n) [] short = refl
none_past zero (x ∷ xs) short = absurd (omega arith)
none_past (suc n) (x ∷ xs) short = none_past n xs (omega arith)
