-- Sums of what the workers of a list counted.
use Rattle.std.proofs.Common.{◌≡◌, ℕ, ◌+◌, ◌*◌, suc, List, [], ◌∷◌, refl, sym, ◌∙◌, ap, subst, arith, length, sum_by, All}
use Rattle.std.proofs.lemmas.List.Elements.{All-cons, All-head, All-nil, All-tail}
use Rattle.std.proofs.lemmas.List.Sums.{sum_by-cons}
use Rattle.tp_workers.specs.declared.tally.Shift.{Shift}
use Rattle.tp_workers.specs.Tally.{empty_shift, plus}
use Rattle.tp_workers.specs.Ran.{RanAll}

-- a weaker relation
pub ran_weaker : {T : Type 0} (R Q : T → Shift → T → Type 0) → ((x : T) (s : Shift) (y : T) → R x s y → Q x s y) → (xs : List T) (s : Shift) (ys : List T) → RanAll R xs s ys → RanAll Q xs s ys
ran_weaker R Q w [] s [] h = h
ran_weaker R Q w [] s (y ∷ ys) h = absurd h
ran_weaker R Q w (x ∷ xs) s [] h = absurd h
ran_weaker R Q w (x ∷ xs) s (y ∷ ys) h = (h.0, h.1, w x h.0 y h.2, ran_weaker R Q w xs h.1 ys h.3, h.4)

-- what holds of each worker's counts, and of sums, holds of the sum
pub ran_keeps : {T : Type 0} (R : T → Shift → T → Type 0) (P : Shift → Type 0) → P empty_shift → ((a b : Shift) → P a → P b → P (plus a b)) → ((x : T) (s : Shift) (y : T) → R x s y → P s) → (xs : List T) (s : Shift) (ys : List T) → RanAll R xs s ys → P s
ran_keeps R P z p r [] s [] h = subst P (sym h) z
ran_keeps R P z p r [] s (y ∷ ys) h = absurd h
ran_keeps R P z p r (x ∷ xs) s [] h = absurd h
ran_keeps R P z p r (x ∷ xs) s (y ∷ ys) h = subst P (sym h.4) (p h.0 h.1 (r x h.0 y h.2) (ran_keeps R P z p r xs h.1 ys h.3))

-- what each worker counts more, all count more
pub ran_gains : {T : Type 0} (R : T → Shift → T → Type 0) (f : Shift → ℕ) (g : T → ℕ) → f empty_shift ≡ 0 → ((a b : Shift) → f (plus a b) ≡ f a + f b) → ((x : T) (s : Shift) (y : T) → R x s y → f s + g x ≡ g y) → (xs : List T) (s : Shift) (ys : List T) → RanAll R xs s ys → f s + sum_by g xs ≡ sum_by g ys
ran_gains R f g z p r [] s [] h = ap (λ (n : ℕ). n + 0) (ap f h ∙ z)
ran_gains R f g z p r [] s (y ∷ ys) h = absurd h
ran_gains R f g z p r (x ∷ xs) s [] h = absurd h
ran_gains R f g z p r (x ∷ xs) s (y ∷ ys) h =
    let e : f s ≡ f h.0 + f h.1 = ap f h.4 ∙ p h.0 h.1 in
    omega (arith, r x h.0 y h.2, ran_gains R f g z p r xs h.1 ys h.3, sum_by-cons g x xs, sum_by-cons g y ys)

-- what each worker was asked, all were asked
pub ran_asked : {T : Type 0} (R : T → Shift → T → Type 0) (f : Shift → ℕ) (w : T → ℕ) → f empty_shift ≡ 0 → ((a b : Shift) → f (plus a b) ≡ f a + f b) → ((x : T) (s : Shift) (y : T) → R x s y → f s ≡ w x) → (xs : List T) (s : Shift) (ys : List T) → RanAll R xs s ys → f s ≡ sum_by w xs
ran_asked R f w z p r [] s [] h = ap f h ∙ z
ran_asked R f w z p r [] s (y ∷ ys) h = absurd h
ran_asked R f w z p r (x ∷ xs) s [] h = absurd h
ran_asked R f w z p r (x ∷ xs) s (y ∷ ys) h =
    let e : f s ≡ f h.0 + f h.1 = ap f h.4 ∙ p h.0 h.1 in
    omega (arith, r x h.0 y h.2, ran_asked R f w z p r xs h.1 ys h.3, sum_by-cons w x xs)

pub sum_by-const : {T : Type 0} (n : ℕ) (xs : List T) → sum_by (λ x. n) xs ≡ n * length xs
sum_by-const n [] = omega arith
sum_by-const n (x ∷ xs) = sum_by-cons (λ y. n) x xs ∙ grind (arith, sum_by-const n xs)
