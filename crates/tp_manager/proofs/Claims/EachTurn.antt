-- Each element has its turn.
use Rattle.std.proofs.Common.{◌≡◌, ◌≢◌, ◌⊎◌, ℕ, ◌+◌, ◌<◌, List, [], ◌∷◌, ◌++◌, Some, sym, ap, ◌∙◌, subst, inl, inr, ⊎_elim, arith}
use mathlib.Core.Logic.{dite}
use native.Mathlib.Decide.{dec_le, ℕ_discrete}
use Rattle.tp_model.specs.declared.types.Element.{Element}
use Rattle.tp_model.specs.declared.types.Limits.{Limits}
use Rattle.tp_model.specs.History.{In, here, there, element_of}
use Rattle.tp_manager.specs.Calls.{IsBefore, TakesNext, opening}
use Rattle.tp_manager.specs.Turns.{AreTurns, EachHasItsTurn, HasTurn, Taking}
use Rattle.tp_manager.specs.Shown.{PassShown, turn_of}

-- what comes before x comes before what is taken first, or from there on before x still
before_or : (from id x y : ℕ) → y ≢ id → IsBefore from x y → IsBefore from id y ⊎ IsBefore (id + 1) x y
before_or from id x y other is = dite (dec_le from y)
    (λ low. dite (dec_le (y + 1) id)
    (λ less. inl (inl (low, omega arith)))
    (λ not. dite (dec_le from id)
    (λ past. inr (⊎_elim (λ t. inl (omega (arith, other), t.1)) (λ t. (let a = t.0 in inr (omega arith, inl (omega (arith, other))))) is))
    (λ wrap. inl (inr (omega arith, inl low)))))
    (λ early. (let t = wrapped is (omega arith) in let a = t.0 in let b = t.1 in dite (dec_le from id)
    (λ past. inr (inr (omega arith, inr b)))
    (λ wrap. dite (dec_le (y + 1) id)
    (λ less. inl (inr (omega arith, inr (omega arith))))
    (λ not. inr (inl (omega (arith, other), b))))))
  where
    wrapped : IsBefore from x y → y < from → (x < from) × (y < x)
    wrapped is less = ⊎_elim (λ t. absurd (let a = t.0 in omega arith)) (λ t. (t.0, ⊎_elim (λ low. absurd (omega arith)) (λ b. b) t.1)) is

module _ (l : Limits) (stage x : ℕ) (y : Element) (staged : y.stage ≡ stage) where
  -- the claim took it, or went past it
  passed : (t : Taking) (from : ℕ) → t.stage ≡ stage → turn_of t.old stage ≡ from → TakesNext l t.stage t.work t.old t.new → element_of (opening t.old t.new) y.id ≡ Some y → IsBefore from t.work.element.id y.id → HasTurn l y t
  passed t from of at takes born now = inr (takes.first y born (staged ∙ sym of) (subst (λ n. IsBefore n t.work.element.id y.id) (sym (ap (turn_of t.old) of ∙ at)) now))

  go : (before : PassShown) (ts : List Taking) (again : Taking) → AreTurns l before (ts ++ again ∷ []) → again.stage ≡ stage → again.work.element.id ≡ x → IsBefore (turn_of before stage) x y.id
      → ((t : Taking) → In t (ts ++ again ∷ []) → element_of (opening t.old t.new) y.id ≡ Some y) → (t : Taking) × In t (ts ++ again ∷ []) × (t.stage ≡ stage) × HasTurn l y t
  go before [] again turns of is ahead born = (again, here, of, passed again (turn_of before stage) of (turns.0 stage) turns.1 (born again here) (subst (λ n. IsBefore (turn_of before stage) n y.id) (sym is) ahead))
  go before (t ∷ ts) again turns of is ahead born = dite (ℕ_discrete t.stage stage)
      (λ mine. dite (ℕ_discrete y.id t.work.element.id)
      (λ taken. (t, here, mine, inl taken))
      (λ other. ⊎_elim
      (λ now. (t, here, mine, passed t (turn_of before stage) mine (turns.0 stage) turns.1 (born t here) now))
      (λ later. (let r = go t.new ts again turns.2 of is (subst (λ n. IsBefore n x y.id) (sym (ap (turn_of t.new) (sym mine) ∙ turns.1.turn)) later) (λ u q. born u (there q)) in (r.0, there r.1, r.2, r.3)))
      (before_or (turn_of before stage) t.work.element.id x y.id other ahead)))
      (λ foreign. (let r = go t.new ts again turns.2 of is (subst (λ n. IsBefore n x y.id) (sym (turns.1.others stage (λ same. foreign (sym same)) ∙ turns.0 stage)) ahead) (λ u q. born u (there q)) in (r.0, there r.1, r.2, r.3)))

pub each_has_its_turn : (l : Limits) → EachHasItsTurn l
each_has_its_turn l first again ts y takes turns of is staged other born =
    go l first.stage first.work.element.id y staged first.new ts again turns of is (subst (λ n. IsBefore n first.work.element.id y.id) (sym takes.turn) start) born
  where
    start : IsBefore (first.work.element.id + 1) first.work.element.id y.id
    start = dite (dec_le (y.id + 1) first.work.element.id) (λ less. inr (omega arith, inr (omega arith))) (λ not. inr (omega arith, inl (omega (arith, other))))
