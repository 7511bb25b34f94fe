-- One more behind the others.
use Rattle.std.proofs.Common.{◌≡◌, ℕ, ◌+◌, ◌<◌, List, [], ◌∷◌, ◌++◌, length, map, take, get_or, refl}
use Rattle.std.proofs.lemmas.List.{map-append, take_more}

-- what is known of each so far, and of one more
pub extended : {B C : Type 0} (h : C → B) (xs news : List B) (b : B) (ys : List C) (n : ℕ) (d : C)
    → news ≡ xs ++ b ∷ [] → xs ≡ map h (take n ys) → n < length ys → b ≡ h (get_or ys n d)
    → news ≡ map h (take (n + 1) ys)
extended h xs news b ys n d grown before within one =
    rw (grown, take_more ys n d within, map-append h (take n ys) (get_or ys n d ∷ []), before, one) refl

-- one more, by another name of it
pub renamed : {B : Type 0} (m n o : List B) (a b : B) → m ≡ n → n ≡ o ++ a ∷ [] → a ≡ b → m ≡ o ++ b ∷ []
renamed m n o a b same grown is = rw (same, grown, is) refl
