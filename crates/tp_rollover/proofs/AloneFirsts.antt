-- The first of the waiting elements of a stage, from an id on, is what is computed.
use Rattle.std.proofs.Common.{◌≡◌, ◌⊎◌, ℕ, ◌<◌, Option, Some, None, List, refl, sym, ◌∙◌, ap, inl, inr, ⊎_elim, arith}
use mathlib.Core.Logic.{dite}
use native.Mathlib.Decide.{dec_le}
use Rattle.tp_model.specs.declared.types.Element.{Element}
use Rattle.tp_model.specs.declared.types.Look.{Look}
use Rattle.tp_model.specs.declared.types.Status.TheVariants.{Waiting}
use Rattle.tp_model.specs.History.{born, element_of}
use Rattle.tp_model.specs.Steps.{IsLegal}
use Rattle.tp_plain.specs.Computed.{next_waiting}
use Rattle.tp_plain.specs.Looks.{attempts_in, look_at, looks_after_all}
use Rattle.tp_plain.specs.OneThread.{IsPlainBefore, State, Waits}
use Rattle.tp_plain.proofs.Claims.{Best, no_best, best, best_is, look_of_waits, mapped, waits_of}

-- of two ids in a circle the one comes before the other
before_less : (from i j : ℕ) → i < j → IsPlainBefore from j i ⊎ IsPlainBefore from i j
before_less from i j less = dite (dec_le from i)
    (λ low. inl (inl (low, less)))
    (λ under. dite (dec_le from j) (λ high. inr (inr (omega arith, inl high))) (λ both. inl (inr (omega arith, inr less))))

pub not_before : (from i j : ℕ) → ¬ IsPlainBefore from i j → ¬ IsPlainBefore from j i → i ≡ j
not_before from i j one two = dite (dec_le i j)
    (λ le. dite (dec_le j i) (λ ge. (omega arith))
    (λ over. absurd (⊎_elim (λ p. two p) (λ p. one p) (before_less from i j (omega arith)))))
    (λ over. absurd (⊎_elim (λ p. one p) (λ p. two p) (before_less from j i (omega arith))))

module _ (s : State) (from stage : ℕ) (legal : IsLegal s.limits s.history) where
  abbrev looks : List Look
  looks = looks_after_all s.limits.attempts s.history

  pub none_waits : ((e : Element) (n : ℕ) → ¬ Waits s stage e n) → next_waiting s from stage ≡ None
  none_waits none = go (next_waiting s from stage) (best_is from stage looks)
    where
      go : (o : Option Look) → Best from stage looks o → o ≡ None
      go None b = refl
      go (Some k) (best l there waits least) = absurd (none l.element (attempts_in l.status) (waits_of s from stage legal l there waits))

  pub first_waits : (e : Element) (n : ℕ) → Waits s stage e n → ((d : Element) (m : ℕ) → Waits s stage d m → ¬ IsPlainBefore from e.id d.id)
      → next_waiting s from stage ≡ Some (record { element = e; status = Waiting n })
  first_waits e n w first = go (next_waiting s from stage) (best_is from stage looks)
    where
      go : (o : Option Look) → Best from stage looks o → o ≡ Some (record { element = e; status = Waiting n })
      go None (no_best none) = let t = look_of_waits s from stage legal e n w in absurd (none _ t.0 t.1)
      go (Some k) (best l there waits least) =
          let t = look_of_waits s from stage legal e n w in
          let low : ¬ IsPlainBefore from l.element.id e.id = least _ t.0 t.1 in
          let x : Waits s stage l.element (attempts_in l.status) = waits_of s from stage legal l there waits in
          let high : ¬ IsPlainBefore from e.id l.element.id = first l.element (attempts_in l.status) x in
          let id : l.element.id ≡ e.id = not_before from l.element.id e.id low high in
          let one : Some l.element ≡ Some e = sym x.born ∙ (ap (element_of s.history) id ∙ w.born) in
          let same : l.element ≡ e = cc in
          let m = mapped (look_at s.limits.attempts s.history) (born s.history) l there in
          let of : m.0 ≡ e = ap (λ (y : Look). y.element) m.2 ∙ same in
          let at : l ≡ look_at s.limits.attempts s.history e = sym m.2 ∙ ap (look_at s.limits.attempts s.history) of in
          ap (λ (y : Look). Some y) (at ∙ ap (λ st. record { element = e; status = st }) w.waits)
