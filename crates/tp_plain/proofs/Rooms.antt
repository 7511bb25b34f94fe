-- The rows that are left to a pass, and what events make of them.
use Rattle.std.proofs.Common.{◌≡◌, ◌⊎◌, ℕ, suc, ◌+◌, ◌-◌, ◌*◌, ◌<◌, ◌≤◌, ◌≢◌, ◌==◌, Some, None, List, [], ◌∷◌, ◌++◌, refl, sym, ◌∙◌, ap, subst, inl, inr, ⊎_elim, arith, suc-mul, mul-le-mul_right}
use Rattle.std.proofs.lemmas.Bool.Decides.{eqb_tells}
use Rattle.std.specs.List.{find}
use Rattle.tp_model.specs.declared.types.Element.{Element}
use Rattle.tp_model.specs.declared.types.Limits.{Limits}
use Rattle.tp_model.specs.declared.event.Event.{Event}
use Rattle.tp_model.specs.History.{In, births, born, pass_of, IsUnborn}
use Rattle.tp_model.specs.Steps.{IsArea, IsBlock, IsPart, MayUse, block_first}
use Rattle.tp_model.proofs.Bridges.{in_cons, in_either, in_left, in_none, in_one, in_right, unborn_still}
use Rattle.tp_model.proofs.Lists.{if_same, if_other}
use Rattle.tp_plain.specs.Reached.{RunFits}

-- what isn't born has no birth

not_there : (xs : List Element) (i : ℕ) (x : Element) → find (λ (y : Element). y.id == i) xs ≡ None → In x xs → x.id ≢ i
not_there [] i x none p same = absurd (in_none p)
not_there (y ∷ ys) i x none p same =
    elim (eqb_tells y.id i) [
      | inl q ↦ (let clash : Some y ≡ None = sym (if_same y.id i (Some y) (find (λ (z : Element). z.id == i) ys) q.1) ∙ none in absurd cc)
      | inr q ↦ ⊎_elim
          (λ now. let at : y.id ≢ i = q.1 in at (ap (λ (z : Element). z.id) (sym now) ∙ same))
          (λ later. not_there ys i x (sym (if_other y.id i (Some y) (find (λ (z : Element). z.id == i) ys) q.1) ∙ none) later same)
          (in_cons p)
    ]

born_in : (h : List Event) (e : Event) (x : Element) → In e h → In x (births e) → In x (born h)
born_in [] e x p made = absurd (in_none p)
born_in (d ∷ h) e x p made = ⊎_elim (λ now. in_left (born h) (subst (λ z. In x (births z)) now made)) (λ later. in_right (births d) (born_in h e x later made)) (in_cons p)

pub no_birth_of : (h : List Event) (e : Event) (x : Element) → IsUnborn h x.id → In e h → In x (births e) → ⊥
no_birth_of h e x none p made = not_there (born h) x.id x none (born_in h e x p made) refl

-- where a run lies

module _ (l : Limits) (h : List Event) (drawn c next left : ℕ) (run : RunFits l h drawn c next left) where
  pub run_area : IsArea l run.first (next + left)
  run_area = ⊎_elim (λ part. inl (c, part)) (λ t. inr (t.0, t.2)) run.area

  -- it lies before the blocks that are left
  pub run_below : next + left ≤ block_first l drawn
  run_below = ⊎_elim
      (λ part. let below : c < l.parts = part.0 in let at = part.2 in let all : suc c * l.rows ≤ l.parts * l.rows = mul-le-mul_right l.rows below in omega (arith, suc-mul c l.rows))
      (λ t. let below = t.1 in let at = t.2.2 in omega arith) run.area

  -- the pass may use its rows
  pub may_use : c < l.parts → (i : ℕ) → next ≤ i → i < next + left → MayUse l h c i
  may_use given i low high = let begins = run.begins in ⊎_elim
      (λ part. let from = part.1 in let to = part.2 in inl (given, omega arith, omega arith))
      (λ t. let from = t.2.1 in let to = t.2.2 in inr (given, t.0, (t.2.0, omega arith, omega arith), λ e x p made row. let a = row.1 in let b = row.2 in run.alone e x p made (omega arith) (omega arith))) run.area

  -- more blocks are drawn meanwhile
  pub run_wider : (more : ℕ) → drawn ≤ more → RunFits l h more c next left
  run_wider more further = record {
    first = run.first;
    area = ⊎_elim (λ part. inl part) (λ t. let below = t.1 in inr (t.0, omega arith, t.2)) run.area;
    begins = run.begins;
    unborn = run.unborn;
    alone = run.alone;
  }

  -- nothing is born in its area meanwhile
  pub run_kept : (e : Event) → ((x : Element) → In x (births e) → run.first ≤ x.id → x.id < next + left → ⊥) → RunFits l (h ++ e ∷ []) drawn c next left
  run_kept e clear = let begins = run.begins in record {
    first = run.first;
    area = run.area;
    begins = begins;
    unborn = λ i low high. unborn_still h e i (run.unborn i low high) (λ x p same. clear x p (omega arith) (omega arith));
    alone = λ d x p made low high. ⊎_elim (λ old. run.alone d x old made low high) (λ now. absurd (clear x (subst (λ z. In x (births z)) (in_one now) made) low high)) (in_either h (e ∷ []) p);
  }

  -- nothing is born at all
  pub run_quiet : (e : Event) → births e ≡ [] → RunFits l (h ++ e ∷ []) drawn c next left
  run_quiet e none = run_kept e (λ x p low high. in_none (subst (λ xs. In x xs) none p))

  -- its first k rows are used up
  pub run_passed : (k : ℕ) → k ≤ left → RunFits l h drawn c (next + k) (left - k)
  run_passed k few = let begins = run.begins in let same : next + left ≡ (next + k) + (left - k) = omega arith in record {
    first = run.first;
    area = subst (λ end. IsPart l c run.first end ⊎ ((b : ℕ) × (b < drawn) × IsBlock l b run.first end)) same run.area;
    begins = omega arith;
    unborn = λ i low high. run.unborn i (omega arith) (omega arith);
    alone = λ e x p made low high. run.alone e x p made low (omega arith);
  }

  -- and the pass made something there
  pub run_used : (k : ℕ) → k ≤ left → (e : Event) → pass_of e ≡ c → ((x : Element) → In x (births e) → x.id < next + k) → RunFits l (h ++ e ∷ []) drawn c (next + k) (left - k)
  run_used k few e by there_is = let begins = run.begins in let same : next + left ≡ (next + k) + (left - k) = omega arith in record {
    first = run.first;
    area = subst (λ end. IsPart l c run.first end ⊎ ((b : ℕ) × (b < drawn) × IsBlock l b run.first end)) same run.area;
    begins = omega arith;
    unborn = λ i low high. unborn_still h e i (run.unborn i (omega arith) (omega arith)) (λ x p same. let below = there_is x p in omega arith);
    alone = λ d x p made low high. ⊎_elim (λ old. run.alone d x old made low (omega arith)) (λ now. ap pass_of (in_one now) ∙ by) (in_either h (e ∷ []) p);
  }
