-- An element that waits has attempts left.
use Rattle.std.proofs.Common.{◌≡◌, ℕ, ◌<◌, ◌≤◌, nat_lt, Bool, true, false, cond, if◌then◌else◌, List, [], ◌∷◌, ◌++◌, refl, sym, ◌∙◌, inl, inr, arith}
use Rattle.std.proofs.lemmas.Bool.Decides.{eqb_tells, nat_tests}
use Rattle.tp_model.specs.declared.types.Limits.{Limits}
use Rattle.tp_model.specs.declared.types.Status.{Status}
use Rattle.tp_model.specs.declared.types.Status.TheVariants.{Waiting, Held, Consumed, Parked, Killed}
use Rattle.tp_model.specs.declared.event.Event.{Event}
use Rattle.tp_model.specs.declared.event.Event.TheVariants.{Enqueue, Claim, Commit, Abort, Kill, Requeue}
use Rattle.tp_model.specs.History.{status_after, status_of}
use Rattle.tp_model.specs.Steps.{Step, IsLegal}
use Rattle.tp_model.proofs.Lists.{if_same, if_other}
use Rattle.tp_model.proofs.Histories.{by_steps, status_of-snoc}

-- one event more
waiting_after : (limit : ℕ) → 1 ≤ limit → (e : Event) (i : ℕ) (s : Status) → ((n : ℕ) → s ≡ Waiting n → n < limit) → (n : ℕ) → status_after limit i s e ≡ Waiting n → n < limit
waiting_after limit some (Enqueue c e) i s old n is = old n is
waiting_after limit some (Claim c u j m) i s old n is =
    elim (eqb_tells j i) [
      | inl p ↦ absurd (let held : Held u m ≡ Waiting n = sym (if_same j i (Held u m) s p.1) ∙ is in cc)
      | inr p ↦ old n (sym (if_other j i (Held u m) s p.1) ∙ is)
    ]
waiting_after limit some (Commit c u outs) i (Held v m) old n is =
    elim (eqb_tells u v) [
      | inl p ↦ absurd (let at : Consumed v ≡ Waiting n = sym (if_same u v (Consumed v) (Held v m) p.1) ∙ is in cc)
      | inr p ↦ absurd (let at : Held v m ≡ Waiting n = sym (if_other u v (Consumed v) (Held v m) p.1) ∙ is in cc)
    ]
waiting_after limit some (Commit c u outs) i (Waiting m) old n is = old n is
waiting_after limit some (Commit c u outs) i (Consumed v) old n is = old n is
waiting_after limit some (Commit c u outs) i (Parked m) old n is = old n is
waiting_after limit some (Commit c u outs) i Killed old n is = old n is
waiting_after limit some (Abort c u) i (Held v m) old n is =
    elim (eqb_tells u v) [
      | inl p ↦ go (nat_lt m limit) refl (sym (if_same u v (if nat_lt m limit then Waiting m else Parked m) (Held v m) p.1) ∙ is)
      | inr p ↦ absurd (let at : Held v m ≡ Waiting n = sym (if_other u v (if nat_lt m limit then Waiting m else Parked m) (Held v m) p.1) ∙ is in cc)
    ]
  where
    go : (b : Bool) → nat_lt m limit ≡ b → cond b (Waiting m) (Parked m) ≡ Waiting n → n < limit
    go true less at = let same : m ≡ n = cc in let below : m < limit = grind (arith, nat_tests) in omega arith
    go false less at = absurd (cc (at))
waiting_after limit some (Abort c u) i (Waiting m) old n is = old n is
waiting_after limit some (Abort c u) i (Consumed v) old n is = old n is
waiting_after limit some (Abort c u) i (Parked m) old n is = old n is
waiting_after limit some (Abort c u) i Killed old n is = old n is
waiting_after limit some (Kill c j) i s old n is =
    elim (eqb_tells j i) [
      | inl p ↦ absurd (let at : Killed ≡ Waiting n = sym (if_same j i Killed s p.1) ∙ is in cc)
      | inr p ↦ old n (sym (if_other j i Killed s p.1) ∙ is)
    ]
waiting_after limit some (Requeue c j k) i s old n is =
    elim (eqb_tells j i) [
      | inl p ↦ let at : Waiting 0 ≡ Waiting n = sym (if_same j i (Waiting 0) s p.1) ∙ is in let same : 0 ≡ n = cc in omega arith
      | inr p ↦ old n (sym (if_other j i (Waiting 0) s p.1) ∙ is)
    ]

pub waiting_below : (l : Limits) (h : List Event) (i n : ℕ) → IsLegal l h → 1 ≤ l.attempts → status_of l.attempts h i ≡ Waiting n → n < l.attempts
waiting_below l h i n legal some is =
    by_steps l (λ x. (n : ℕ) → status_of l.attempts x i ≡ Waiting n → n < l.attempts) (λ n is. let none : 0 ≡ n = cc in omega arith) more h legal n is
  where
    more : (h : List Event) (e : Event) → IsLegal l h → Step l h e → ((n : ℕ) → status_of l.attempts h i ≡ Waiting n → n < l.attempts) → (n : ℕ) → status_of l.attempts (h ++ e ∷ []) i ≡ Waiting n → n < l.attempts
    more h e legal step old n is = waiting_after l.attempts some e i (status_of l.attempts h i) old n (sym (status_of-snoc l.attempts h e i) ∙ is)
