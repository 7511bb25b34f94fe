-- What a seat knows of no use stays so.
use Rattle.std.proofs.Common.{◌≡◌, ℕ, List, sym, subst, inl, inr, ⊎_elim}
use mathlib.Core.List.{IsPrefix}
use Rattle.tp_model.specs.declared.types.Limits.{Limits}
use Rattle.tp_model.specs.declared.event.Event.{Event}
use Rattle.tp_model.specs.History.{Aborted, IsSettled}
use Rattle.tp_model.specs.Steps.{IsLegal}
use Rattle.tp_model.proofs.Bridges.{end_stays, found_later}
use Rattle.tp_model.proofs.LawProofs.{settled_stay}
use Rattle.tp_rule.specs.Rule.{IsInside, IsSettledRow}
use Rattle.tp_rule.specs.Steps.{KnowsFinished, Knows, KnowsUseless}
use Rattle.tp_rule.specs.declared.view.Known.{Known}
use Rattle.tp_rule.specs.declared.view.Known.TheVariants.{PartMark}
use Rattle.tp_rule.specs.declared.view.View.{View}
use Rattle.tp_manager.specs.CallSteps.{IsKnown}
use Rattle.tp_manager.specs.Marks.{MayRemember, Rose}

-- the seat goes on from v to w: it has seen more, and knows what it knew
pub record Goes (l : Limits) (v w : View) : Type 0 where
  pub limits : (v.limits ≡ l) × (w.limits ≡ l)
  pub legal : IsLegal l w.seen
  pub begins : IsPrefix v.seen w.seen
  pub knows : (x : Known) → Knows v x → Knows w x

module _ (l : Limits) where
  pub settled_row : (h g : List Event) (i : ℕ) → IsLegal l g → IsPrefix h g → IsSettledRow l h i → IsSettledRow l g i
  settled_row h g i legal begins s = (s.0, found_later h g begins i s.0 s.1, subst IsSettled (sym (settled_stay l h g i legal begins s.2)) s.2)

  -- what a seat knows finished it knows later too
  done_later : (v w : View) (i : ℕ) → Goes l v w → KnowsFinished v i → KnowsFinished w i
  done_later v w i g d = ⊎_elim
      (λ s. inl (subst (λ (z : Limits). IsSettledRow z w.seen i) (sym g.limits.1) (settled_row v.seen w.seen i g.legal g.begins (subst (λ (z : Limits). IsSettledRow z v.seen i) g.limits.0 s))))
      (λ n. inr (n.0, n.1, n.2, g.knows _ n.3, end_stays v.seen w.seen n.2 Aborted g.begins n.4)) d

  -- so it knows what is of no use
  pub useless_later : (c : ℕ) (v w : View) (i : ℕ) → Goes l v w → KnowsUseless v c i → KnowsUseless w c i
  useless_later c v w i g u = ⊎_elim (λ d. inl (done_later v w i g d)) (λ a. inr (⊎_elim (λ f. inl (f.0, g.knows _ f.1, f.2)) (λ t. inr (t.0, t.1, t.2, g.knows _ t.3, t.4, t.5, t.6)) a)) u

  pub rose_later : (c : ℕ) (v w : View) (a b : ℕ) → Goes l v w → Rose c v a b → Rose c w a b
  rose_later c v w a b g r = (r.0, λ i low high. useless_later c v w i g (r.1 i low high))

  -- and a mark that it may remember
  pub may_later : (c : ℕ) (v w : View) (p n : ℕ) → Goes l v w → MayRemember l c v p n → MayRemember l c w p n
  may_later c v w p n g may = ⊎_elim (λ k. inl (g.knows (PartMark c p n) k))
      (λ m. inr record { stage = m.stage; found = m.found; knows = g.knows _ m.knows; above = g.knows _ m.above; inside = m.inside; rose = rose_later c v w _ _ g m.rose }) may

  -- which is inside its part
  pub may_inside : (c : ℕ) (v : View) (p n : ℕ) → IsKnown l v → MayRemember l c v p n → IsInside l p n
  may_inside c v p n low may = ⊎_elim (λ k. (low (PartMark c p n) k).0) (λ m. m.inside) may
