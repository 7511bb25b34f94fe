-- A reply waits, or was killed: no unit takes it.
use Rattle.std.proofs.Common.{◌≡◌, ◌⊎◌, ℕ, Option, Some, None, List, [], ◌∷◌, ◌++◌, refl, sym, ◌∙◌, ap, subst, inl, inr, ⊎_elim, arith}
use Rattle.std.proofs.lemmas.Bool.Decides.{eqb_tells}
use Rattle.tp_model.specs.declared.types.Element.{Element}
use Rattle.tp_model.specs.declared.types.Limits.{Limits}
use Rattle.tp_model.specs.declared.types.Status.{Status}
use Rattle.tp_model.specs.declared.types.Status.TheVariants.{Waiting, Held, Killed, Parked}
use Rattle.tp_model.specs.declared.event.Event.{Event}
use Rattle.tp_model.specs.declared.event.Event.TheVariants.{Enqueue, Claim, Commit, Abort, Kill, Requeue}
use Rattle.tp_model.specs.History.{element_of, status_after, status_of}
use Rattle.tp_model.specs.Steps.{IsLegal, Step}
use Rattle.tp_model.proofs.Lists.{if_same, if_other}
use Rattle.tp_model.proofs.Histories.{by_steps, element_of-kept, settled_after, status_of-snoc, unborn_after, unborn_waits}

abbrev pub StandsAsReply : Status → Type 0
StandsAsReply s = (s ≡ Waiting 0) ⊎ (s ≡ Killed)

module _ (l : Limits) where
  waits_on : (h : List Event) (e : Event) → Step l h e → (i : ℕ) (x : Element) → element_of h i ≡ Some x → x.stage ≡ 15 → status_of l.attempts h i ≡ Waiting 0 → StandsAsReply (status_after l.attempts i (Waiting 0) e)
  waits_on h (Enqueue c y) step i x born staged waits = inl refl
  waits_on h (Claim c u j n) step i x born staged waits =
      elim (eqb_tells j i) [
        | inl p ↦
            let same : element_of h i ≡ Some step.item = subst (λ z. element_of h z ≡ Some step.item) p.1 step.born in
            let one : step.item ≡ x = cc in
            let at : step.item.stage ≡ 15 = ap (λ (y : Element). y.stage) one ∙ staged in
            let high = step.stage.1 in
            absurd (omega arith)
        | inr p ↦ inl (if_other j i (Held u n) (Waiting 0) p.1)
      ]
  waits_on h (Commit c u outs) step i x born staged waits = inl refl
  waits_on h (Abort c u) step i x born staged waits = inl refl
  waits_on h (Kill c j) step i x born staged waits =
      elim (eqb_tells j i) [
        | inl p ↦ inr (if_same j i Killed (Waiting 0) p.1)
        | inr p ↦ inl (if_other j i Killed (Waiting 0) p.1)
      ]
  waits_on h (Requeue c j r) step i x born staged waits =
      elim (eqb_tells j i) [
        | inl p ↦
            let parked : status_of l.attempts h i ≡ Parked step.parked.0 = ap (status_of l.attempts h) (sym p.1) ∙ step.parked.1 in
            let clash : Waiting 0 ≡ Parked step.parked.0 = sym waits ∙ parked in
            absurd cc
        | inr p ↦ inl (if_other j i (Waiting 0) (Waiting 0) p.1)
      ]

  stands_on : (h : List Event) (e : Event) → Step l h e → (i : ℕ) (x : Element) → element_of h i ≡ Some x → x.stage ≡ 15 → StandsAsReply (status_of l.attempts h i) → StandsAsReply (status_of l.attempts (h ++ e ∷ []) i)
  stands_on h e step i x born staged (inl waits) =
      subst StandsAsReply (sym (status_of-snoc l.attempts h e i ∙ ap (λ s. status_after l.attempts i s e) waits)) (waits_on h e step i x born staged waits)
  stands_on h e step i x born staged (inr killed) =
      inr (status_of-snoc l.attempts h e i ∙ (ap (λ s. status_after l.attempts i s e) killed ∙ settled_after l h e step i Killed tt killed))

  pub reply_stands : (h : List Event) → IsLegal l h → (i : ℕ) (x : Element) → element_of h i ≡ Some x → x.stage ≡ 15 → StandsAsReply (status_of l.attempts h i)
  reply_stands h legal = by_steps l (λ z. (i : ℕ) (x : Element) → element_of z i ≡ Some x → x.stage ≡ 15 → StandsAsReply (status_of l.attempts z i)) (λ i x born staged. absurd cc) more h legal
    where
      more : (h : List Event) (e : Event) → IsLegal l h → Step l h e → ((i : ℕ) (x : Element) → element_of h i ≡ Some x → x.stage ≡ 15 → StandsAsReply (status_of l.attempts h i))
          → (i : ℕ) (x : Element) → element_of (h ++ e ∷ []) i ≡ Some x → x.stage ≡ 15 → StandsAsReply (status_of l.attempts (h ++ e ∷ []) i)
      more h e legal step old i x born staged = go (element_of h i) refl
        where
          go : (o : Option Element) → element_of h i ≡ o → StandsAsReply (status_of l.attempts (h ++ e ∷ []) i)
          go None is = inl (status_of-snoc l.attempts h e i ∙ (ap (λ s. status_after l.attempts i s e) (unborn_waits l h legal i is) ∙ unborn_after l h e step i is))
          go (Some y) is =
              let kept = element_of-kept h (e ∷ []) i y is in
              let one : y ≡ x = cc in
              let at : y.stage ≡ 15 = ap (λ (z : Element). z.stage) one ∙ staged in
              stands_on h e step i y is at (old i y is at)
