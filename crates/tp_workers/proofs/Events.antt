-- Events of one kind among those that a pass made.
use Rattle.std.proofs.Common.{◌≡◌, ℕ, ◌+◌, Bool, List, [], ◌∷◌, ◌++◌, ap, count_by, cond, arith}
use Rattle.std.proofs.lemmas.List.Sums.{sum_by-append, sum_by-cons}
use Rattle.tp_model.specs.declared.event.Event.{Event}
use Rattle.tp_manager.specs.Calls.{claims_in, one_claim}

pub counted_more : (p : Event → Bool) (a more : List Event) → count_by p (a ++ more) ≡ count_by p a + count_by p more
counted_more p a more = sum_by-append (λ (e : Event). cond (p e) 1 0) a more

-- one event more
pub counted_one : (p : Event → Bool) (a b : List Event) (e : Event) (n : ℕ) → b ≡ a ++ e ∷ [] → ◌≡◌ {A = ℕ} (cond (p e) 1 0) n → n + count_by p a ≡ count_by p b
counted_one p a b e n adds is =
    omega (arith, ap (count_by p) adds, counted_more p a (e ∷ []), sum_by-cons (λ (x : Event). cond (p x) 1 0) e [], is)

pub claims_more : (a more : List Event) → claims_in (a ++ more) ≡ claims_in a + claims_in more
claims_more [] more = omega arith
claims_more (e ∷ a) more = omega (arith, claims_more a more)

pub claims_one : (a b : List Event) (e : Event) (n : ℕ) → b ≡ a ++ e ∷ [] → one_claim e ≡ n → n + claims_in a ≡ claims_in b
claims_one a b e n adds is = omega (arith, ap claims_in adds, claims_more a (e ∷ []), is)
