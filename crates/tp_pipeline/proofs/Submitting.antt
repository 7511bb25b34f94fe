-- Payments that are submitted one after another.
use Rattle.std.proofs.Common.{◌≡◌, ℕ, zero, suc, ◌+◌, List, [], ◌∷◌, ◌++◌, Result, Ok, Err, IfErr, IsErrAnd, refl, sym, ◌∙◌, ap, subst, arith}
use Rattle.tp_workers.specs.Calling.{Chain}
use Rattle.tp_crew.specs.declared.crew.Crew.{Crew}
use Rattle.tp_pipeline.specs.Submitting.{SubmitsPayments, SubmitsPayment, numbers_from}

numbers_more : (n count : ℕ) → numbers_from n (suc count) ≡ numbers_from n count ++ (n + count) ∷ []
numbers_more n zero = ap (λ (k : ℕ). k ∷ []) (omega arith)
numbers_more n (suc count) =
    ap (λ (l : List ℕ). n ∷ l) (numbers_more (n + 1) count ∙ ap (λ (k : ℕ). numbers_from (n + 1) count ++ k ∷ []) (omega arith))

module _ {S A : Type 0} (R : S → A → S → Type 0) where
  chain_snoc : (xs : List A) (a : A) (x y z : S) → Chain R x xs y → R y a z → Chain R x (xs ++ a ∷ []) z
  chain_snoc [] a x y z h r = (z, subst (λ (p : S). R p a z) h r, refl)
  chain_snoc (b ∷ xs) a x y z h r = (h.0, h.1, chain_snoc xs a h.0 y z h.2 r)

module _ {X : Type 0} {F : X → Type 0} where
  pub submits_none : (n : ℕ) (c : Crew X F) → SubmitsPayments n n c c
  submits_none n c = (0, omega arith, refl)

  pub submits_more : (n m k : ℕ) (x y z : Crew X F) → SubmitsPayments n m x y → k ≡ m + 1 → SubmitsPayment y m z → SubmitsPayments n k x z
  submits_more n m k x y z (count, is, chain) one more = (
    suc count,
    one ∙ (ap (λ (j : ℕ). j + 1) is ∙ omega arith),
    subst (λ (l : List ℕ). Chain SubmitsPayment x l z) (sym (numbers_more n count))
        (chain_snoc SubmitsPayment (numbers_from n count) (n + count) x y z chain (subst (λ (j : ℕ). SubmitsPayment y j z) is more)),
  )

-- a fault that is told as it came
pub err_as : {A E : Type 0} (r : Result A E) (x : E) (P : E → Type 0) → IsErrAnd r (λ e. e ≡ x) → P x → IfErr r P
err_as (Ok a) x P h p = tt
err_as (Err e) x P h p = subst P (sym h) p
