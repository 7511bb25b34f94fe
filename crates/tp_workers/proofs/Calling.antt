-- Calls of one worker, and one call more.
use Rattle.std.proofs.Common.{◌≡◌, All, ℕ, ◌+◌, List, [], ◌∷◌, ◌++◌, refl, sym, ◌∙◌, ap, ap₂, subst, length, length-append, arith, zero-add}
use Rattle.std.proofs.lemmas.List.Elements.{All-cons, All-head, All-nil, All-tail}
use Rattle.tp_workers.specs.declared.tally.Shift.{Shift}
use Rattle.tp_workers.specs.Calling.{AllButLast, MadeCalls, Chain, tally}
use Rattle.tp_workers.specs.Tally.{empty_shift, plus, total}
use Rattle.tp_workers.proofs.Counts.{none_plus, plus_assoc, plus_none, total_plus}

module _ {S A : Type 0} (R : S → A → S → Type 0) (count : A → Shift) where
  chain_append : (xs ys : List A) (x y z : S) → Chain R x xs y → Chain R y ys z → Chain R x (xs ++ ys) z
  chain_append [] ys x y z h k = subst (λ (p : S). Chain R p ys z) h k
  chain_append (a ∷ xs) ys x y z h k = (h.0, h.1, chain_append xs ys h.0 y z h.2 k)

  tally_append : (xs ys : List A) → tally count (xs ++ ys) ≡ plus (tally count xs) (tally count ys)
  tally_append [] ys = sym (none_plus (tally count ys))
  tally_append (a ∷ xs) ys = ap (λ (s : Shift). plus (count a) s) (tally_append xs ys) ∙ sym (plus_assoc (count a) (tally count xs) (tally count ys))

  pub called_none : (x : S) → MadeCalls R count 0 x empty_shift x
  called_none x = record { answers = []; each = refl; made = refl; counted = refl }

  pub called_one : (a : A) (x y : S) → R x a y → MadeCalls R count 1 x (count a) y
  called_one a x y r = record { answers = a ∷ []; each = (y, r, refl); made = refl; counted = sym (plus_none (count a)) }

  pub called_then : (m n : ℕ) (x y z : S) (s t : Shift) → MadeCalls R count m x s y → MadeCalls R count n y t z → MadeCalls R count (m + n) x (plus s t) z
  called_then m n x y z s t h k = record {
    answers = h.answers ++ k.answers;
    each = chain_append h.answers k.answers x y z h.each k.each;
    made = length-append h.answers k.answers ∙ ap₂ ◌+◌ h.made k.made;
    counted = ap₂ plus h.counted k.counted ∙ sym (tally_append h.answers k.answers);
  }

  -- one call more, counted by the code
  pub called_more : (n : ℕ) (a : A) (x y z : S) (s t u : Shift) → MadeCalls R count n x s y → R y a z → t ≡ count a → u ≡ plus s t → MadeCalls R count (n + 1) x u z
  called_more n a x y z s t u h r one both =
      subst (λ (w : Shift). MadeCalls R count (n + 1) x w z) (sym (both ∙ ap (plus s) one)) (called_then n 1 x y z s (count a) h (called_one a y z r))

  total_tally : ((a : A) → total (count a) ≡ 1) → (xs : List A) → total (tally count xs) ≡ length xs
  total_tally one [] = refl
  total_tally one (a ∷ xs) = total_plus (count a) (tally count xs) ∙ omega (arith, one a, total_tally one xs)

  zero_each : (f : Shift → ℕ) → ((a b : Shift) → f (plus a b) ≡ f a + f b) → (xs : List A) → f (tally count xs) ≡ 0 → All (λ a. f (count a) ≡ 0) xs
  zero_each f sums [] none = All-nil (λ a. f (count a) ≡ 0)
  zero_each f sums (a ∷ xs) none =
      let both : f (count a) + f (tally count xs) ≡ 0 = sym (sums (count a) (tally count xs)) ∙ none in
      All-cons (λ b. f (count b) ≡ 0) a xs (omega (arith, both)) (zero_each f sums xs (omega (arith, both)))

  -- what no call has counted
  pub called_zero : (f : Shift → ℕ) → ((a b : Shift) → f (plus a b) ≡ f a + f b) → (n : ℕ) (x y : S) (s : Shift) (h : MadeCalls R count n x s y) → f s ≡ 0 → All (λ a. f (count a) ≡ 0) h.answers
  called_zero f sums n x y s h none = zero_each f sums h.answers (sym (ap f h.counted) ∙ none)

  pub but_last : (P : A → Type 0) (xs : List A) → All P xs → AllButLast P xs
  but_last P [] all = tt
  but_last P (a ∷ []) all = tt
  but_last P (a ∷ b ∷ xs) all = (All-head P a (b ∷ xs) all, but_last P (b ∷ xs) (All-tail P a (b ∷ xs) all))

  but_one : (P : A → Type 0) (xs : List A) (a : A) → All P xs → AllButLast P (xs ++ a ∷ [])
  but_one P [] a all = tt
  but_one P (b ∷ []) a all = (All-head P b [] all, tt)
  but_one P (b ∷ c ∷ xs) a all = (All-head P b (c ∷ xs) all, but_one P (c ∷ xs) a (All-tail P b (c ∷ xs) all))

  -- one call more, the last
  pub called_last : (P : A → Type 0) (n : ℕ) (a : A) (x y z : S) (s t u : Shift) (h : MadeCalls R count n x s y) → All P h.answers → R y a z → t ≡ count a → u ≡ plus s t
      → (m : MadeCalls R count (n + 1) x u z) × AllButLast P m.answers
  unfolding called_then called_one
  called_last P n a x y z s t u h all r one both =
      subst (λ (w : Shift). (m : MadeCalls R count (n + 1) x w z) × AllButLast P m.answers) (sym (both ∙ ap (plus s) one))
      (called_then n 1 x y z s (count a) h (called_one a y z r), but_one P h.answers a all)

  -- each call is counted once
  pub called_total : ((a : A) → total (count a) ≡ 1) → (n : ℕ) (x y : S) (s : Shift) → MadeCalls R count n x s y → total s ≡ n
  called_total one n x y s h = ap total h.counted ∙ total_tally one h.answers ∙ h.made

  chain_gains : (f : Shift → ℕ) (measure : S → ℕ) → f empty_shift ≡ 0 → ((a b : Shift) → f (plus a b) ≡ f a + f b) → ((x : S) (a : A) (y : S) → R x a y → f (count a) + measure x ≡ measure y)
      → (xs : List A) (x y : S) → Chain R x xs y → f (tally count xs) + measure x ≡ measure y
  chain_gains f measure zero sums each [] x y h = ap (λ (n : ℕ). n + measure x) zero ∙ (zero-add (measure x) ∙ ap measure (sym h))
  chain_gains f measure zero sums each (a ∷ xs) x y h =
      omega (arith, sums (count a) (tally count xs), each x a h.0 h.1, chain_gains f measure zero sums each xs h.0 y h.2)

  -- what each call adds to a measure, all calls add to it
  pub called_gains : (f : Shift → ℕ) (measure : S → ℕ) → f empty_shift ≡ 0 → ((a b : Shift) → f (plus a b) ≡ f a + f b) → ((x : S) (a : A) (y : S) → R x a y → f (count a) + measure x ≡ measure y)
      → (n : ℕ) (x y : S) (s : Shift) → MadeCalls R count n x s y → f s + measure x ≡ measure y
  called_gains f measure zero sums each n x y s h =
      ap (λ (c : Shift). f c + measure x) h.counted ∙ chain_gains f measure zero sums each h.answers x y h.each

  chain_keeps : (P : S → S → Type 0) → ((x : S) → P x x) → ((x y z : S) → P x y → P y z → P x z) → ((x : S) (a : A) (y : S) → R x a y → P x y) → (xs : List A) (x y : S) → Chain R x xs y → P x y
  chain_keeps P same then each [] x y h = subst (λ (p : S). P x p) (sym h) (same x)
  chain_keeps P same then each (a ∷ xs) x y h = then x h.0 y (each x a h.0 h.1) (chain_keeps P same then each xs h.0 y h.2)

  -- what each call keeps, all calls keep
  pub called_keeps : (P : S → S → Type 0) → ((x : S) → P x x) → ((x y z : S) → P x y → P y z → P x z) → ((x : S) (a : A) (y : S) → R x a y → P x y) → (n : ℕ) (x y : S) (s : Shift) → MadeCalls R count n x s y → P x y
  called_keeps P same then each n x y s h = chain_keeps P same then each h.answers x y h.each

  tally_keeps : (P : Shift → Type 0) → P empty_shift → ((a b : Shift) → P a → P b → P (plus a b)) → ((a : A) → P (count a)) → (xs : List A) → P (tally count xs)
  tally_keeps P zero sums each [] = zero
  tally_keeps P zero sums each (a ∷ xs) = sums (count a) (tally count xs) (each a) (tally_keeps P zero sums each xs)

  -- what holds of each call's count, and of sums, holds of all counts
  pub called_counts : (P : Shift → Type 0) → P empty_shift → ((a b : Shift) → P a → P b → P (plus a b)) → ((a : A) → P (count a)) → (n : ℕ) (x y : S) (s : Shift) → MadeCalls R count n x s y → P s
  called_counts P zero sums each n x y s h = subst P (sym h.counted) (tally_keeps P zero sums each h.answers)
