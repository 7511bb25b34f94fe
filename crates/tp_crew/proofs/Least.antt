-- The least of what passes have.
use Rattle.std.proofs.Common.{◌≡◌, ◌≤◌, ◌<◌, ◌+◌, ◌∙◌, ℕ, zero, suc, List, [], ◌∷◌, refl, ap, arith, length, get_or, min, inl, inr}
use Rattle.std.proofs.lemmas.Bool.Decides.{eqb_tells, leb_tells}
use Rattle.tp_manager.specs.Shown.{PassShown}
use Rattle.tp_crew.specs.Rooms.{IsLeastOf}

any_default : (xs : List PassShown) (i : ℕ) (d e : PassShown) → i < length xs → get_or xs i d ≡ get_or xs i e
any_default [] i d e less = absurd (omega (arith, less))
any_default (x ∷ xs) zero d e less = refl
any_default (x ∷ xs) (suc i) d e less = any_default xs i d e (omega (arith, less))

module _ (f : PassShown → ℕ) (ps : List PassShown) where
  at_place : (i : ℕ) (p d : PassShown) → i < length ps → p ≡ get_or ps i p → f p ≡ f (get_or ps i d)
  at_place i p d less is = ap f (is ∙ any_default ps i p d less)

  -- of the first alone
  pub least_one : (p : PassShown) (n : ℕ) → 1 ≤ length ps → p ≡ get_or ps 0 p → n ≡ f p → IsLeastOf f ps 1 n
  least_one p n some is same = record {
    least = λ i d less. one i d less;
    at = 0;
    within = omega arith;
    has = λ d. same ∙ at_place 0 p d (omega (arith, some)) is;
  }
    where
      one : (i : ℕ) (d : PassShown) → i < 1 → n ≤ f (get_or ps i d)
      one zero d less = let e = same ∙ at_place 0 p d (omega (arith, some)) is in omega (arith, e)
      one (suc i) d less = absurd (omega (arith, less))

  -- of one more
  pub least_more : (k n m : ℕ) (p : PassShown) → k < length ps → p ≡ get_or ps k p → m ≡ f p → IsLeastOf f ps k n → IsLeastOf f ps (k + 1) (min n m)
  least_more k n m p less is same h = elim (leb_tells n m) [
    | inl low ↦
        let e : min n m ≡ n = omega (arith, low.1) in
        rw e (record {
          least = λ i d near. elim (eqb_tells i k) [
            | inl here ↦ (let a = same ∙ at_place k p d less is in rw here.1 (omega (arith, low.1, a)))
            | inr there ↦ h.least i d (omega (arith, near, there.1))
          ];
          at = h.at;
          within = omega (arith, h.within);
          has = h.has;
        })
    | inr high ↦
        let e : min n m ≡ m = omega (arith, high.1) in
        rw e (record {
          least = λ i d near. elim (eqb_tells i k) [
            | inl here ↦ (let a = same ∙ at_place k p d less is in rw here.1 (omega (arith, a)))
            | inr there ↦ (let a = h.least i d (omega (arith, near, there.1)) in omega (arith, high.1, a))
          ];
          at = k;
          within = omega arith;
          has = λ d. same ∙ at_place k p d less is;
        })
  ]
