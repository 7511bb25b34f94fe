-- Kills and Aborts stand in a legal history once.
use Rattle.std.proofs.Common.{◌≡◌, ◌⊎◌, ℕ, ◌==◌, List, [], ◌∷◌, ◌++◌, refl, sym, ◌∙◌, ap, subst, inl, inr, ⊎_elim, append_assoc, arith}
use Rattle.std.specs.List.{find}
use Rattle.std.specs.Option.{option_or}
use Rattle.tp_model.specs.declared.types.Element.{Element}
use Rattle.tp_model.specs.declared.types.Limits.{Limits}
use Rattle.tp_model.specs.declared.types.Status.TheVariants.{Killed}
use Rattle.tp_model.specs.declared.event.Event.{Event}
use Rattle.tp_model.specs.declared.event.Event.TheVariants.{Abort, Kill}
use Rattle.tp_model.specs.History.{In, births, born, element_of, here, status_of, there}
use Rattle.tp_model.specs.Steps.{IsKillable, IsLegal, Step}
use Rattle.tp_model.proofs.Bridges.{in_right}
use Rattle.tp_model.proofs.Histories.{element_of-append, legal_start, settled_stays, status_of-snoc}
use Rattle.tp_model.proofs.Later.{abort_ends}
use Rattle.tp_model.proofs.Lists.{if_same, option_or-None}
use Rattle.tp_manager.specs.Calls.{claims_in}

-- where one list is cut at two places, they are one, or one is after the other
two_cuts : {A : Type 0} (b : List A) (x : A) (r b' : List A) (x' : A) (r' : List A) → b ++ x ∷ r ≡ b' ++ x' ∷ r'
    → (b ≡ b') ⊎ (((m : List A) × (b' ≡ b ++ x ∷ m)) ⊎ ((m : List A) × (b ≡ b' ++ x' ∷ m)))
two_cuts [] x r [] x' r' e = inl refl
two_cuts [] x r (y ∷ b') x' r' e = inr (inl (b', let same : x ≡ y = cc in ap (λ z. z ∷ b') (sym same)))
two_cuts (y ∷ b) x r [] x' r' e = inr (inr (b, let same : y ≡ x' = cc in ap (λ z. z ∷ b) same))
two_cuts (y ∷ b) x r (z ∷ b') x' r' e =
    let head : y ≡ z = cc in
    elim (two_cuts b x r b' x' r' (cc)) [
      | inl p ↦ inl (cc)
      | inr p ↦ inr (⊎_elim (λ q. inl (q.0, (let t = q.1 in cc))) (λ q. inr (q.0, (let t = q.1 in cc))) p)
    ]

-- a Kill or an Abort by pass c
abbrev pub IsEnding : ℕ → Event → Type 0
IsEnding c e = ((i : ℕ) × (e ≡ Kill c i)) ⊎ ((u : ℕ) × (e ≡ Abort c u))

module _ (l : Limits) (c : ℕ) where
  killed_once : (b m r : List Event) (i : ℕ) → IsLegal l ((b ++ Kill c i ∷ m) ++ Kill c i ∷ r) → ⊥
  killed_once b m r i legal =
      let step : Step l (b ++ Kill c i ∷ m) (Kill c i) = legal.each (b ++ Kill c i ∷ m) (Kill c i) r refl in
      let whole : (b ++ Kill c i ∷ []) ++ m ≡ b ++ Kill c i ∷ m = append_assoc b (Kill c i ∷ []) m in
      let start : IsLegal l ((b ++ Kill c i ∷ []) ++ m) = subst (IsLegal l) (sym whole) (legal_start l (b ++ Kill c i ∷ m) (Kill c i ∷ r) legal) in
      let then : status_of l.attempts (b ++ Kill c i ∷ []) i ≡ Killed = status_of-snoc l.attempts b (Kill c i) i ∙ if_same i i Killed (status_of l.attempts b i) refl in
      let still : status_of l.attempts (b ++ Kill c i ∷ m) i ≡ Killed = subst (λ z. status_of l.attempts z i ≡ Killed) whole (settled_stays l (b ++ Kill c i ∷ []) m i Killed tt start then) in
      subst IsKillable still step.free

  aborted_once : (b m r : List Event) (u : ℕ) → IsLegal l ((b ++ Abort c u ∷ m) ++ Abort c u ∷ r) → ⊥
  aborted_once b m r u legal =
      let step : Step l (b ++ Abort c u ∷ m) (Abort c u) = legal.each (b ++ Abort c u ∷ m) (Abort c u) r refl in
      abort_ends (b ++ Abort c u ∷ m) c u (in_right b here) step.open_unit.unfinished

  once : (b m r : List Event) (e : Event) → IsEnding c e → IsLegal l ((b ++ e ∷ m) ++ e ∷ r) → ⊥
  once b m r e (inl p) legal = killed_once b m r p.0 (subst (λ x. IsLegal l ((b ++ x ∷ m) ++ x ∷ r)) p.1 legal)
  once b m r e (inr p) legal = aborted_once b m r p.0 (subst (λ x. IsLegal l ((b ++ x ∷ m) ++ x ∷ r)) p.1 legal)

  -- so its place is one
  pub one_place : (g b r b' r' : List Event) (e : Event) → IsEnding c e → IsLegal l g → b ++ e ∷ r ≡ g → b' ++ e ∷ r' ≡ g → b ≡ b'
  one_place g b r b' r' e ending legal same same' =
      ⊎_elim (λ p. p)
      (λ p. absurd (⊎_elim
      (λ q. once b q.0 r' e ending (subst (λ z. IsLegal l (z ++ e ∷ r')) q.1 (subst (IsLegal l) (sym same') legal)))
      (λ q. once b' q.0 r e ending (subst (λ z. IsLegal l (z ++ e ∷ r)) q.1 (subst (IsLegal l) (sym same) legal))) p))
      (two_cuts b e r b' e r' (same ∙ sym same'))

  -- they make no element, and claim none
  births_none : (e : Event) → IsEnding c e → births e ≡ []
  births_none e (inl p) = ap births p.1
  births_none e (inr p) = ap births p.1

  born_none : (es : List Event) → ((e : Event) → In e es → IsEnding c e) → born es ≡ []
  born_none [] all = refl
  born_none (e ∷ es) all = ap (λ xs. xs ++ born es) (births_none e (all e here)) ∙ born_none es (λ x p. all x (there p))

  pub same_born : (h es : List Event) → ((e : Event) → In e es → IsEnding c e) → (j : ℕ) → element_of (h ++ es) j ≡ element_of h j
  same_born h es all j =
      element_of-append h es j ∙ (ap (λ xs. option_or (element_of h j) (find (λ (x : Element). x.id == j) xs)) (born_none es all) ∙ option_or-None (element_of h j))

  pub no_claims : (es : List Event) → ((e : Event) → In e es → IsEnding c e) → claims_in es ≡ 0
  no_claims [] all = refl
  no_claims (e ∷ es) all = let rest = no_claims es (λ x p. all x (there p)) in let one = none e (all e here) in omega arith
    where
      none : (e : Event) → IsEnding c e → claims_in (e ∷ []) ≡ 0
      none e (inl p) = ap (λ x. claims_in (x ∷ [])) p.1
      none e (inr p) = ap (λ x. claims_in (x ∷ [])) p.1
