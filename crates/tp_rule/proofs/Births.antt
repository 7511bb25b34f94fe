-- What births and claims say of the units that made them.
use Rattle.std.proofs.Common.{◌≡◌, ◌≢◌, ℕ, suc, ◌+◌, ◌-◌, ◌*◌, ◌<◌, ◌≤◌, ◌==◌, Some, None, List, [], ◌∷◌, ◌++◌, length, refl, sym, ◌∙◌, ap, subst, inl, inr, ⊎_elim, arith, suc-mul, mul-le-mul_right}
use Rattle.std.proofs.lemmas.Bool.Decides.{eqb_tells}
use Rattle.std.specs.List.{find}
use Rattle.std.specs.Option.{option_or}
use Rattle.tp_model.specs.declared.types.Element.{Element}
use Rattle.tp_model.specs.declared.types.Limits.{Limits}
use Rattle.tp_model.specs.declared.event.Event.{Event}
use Rattle.tp_model.specs.declared.event.Event.TheVariants.{Enqueue, Claim, Commit, Abort, Kill, Requeue}
use Rattle.tp_model.specs.History.{births, element_of, UnitClaim, claim_of, Committed, end_by, end_of, first_id}
use Rattle.tp_model.specs.Words.{ClaimWord, FreeWord, TakenWord, KilledWord, AgainWord, round_in, kill_word, claim_word, claim_word_after}
use Rattle.tp_model.specs.Steps.{AreLimits, IsUnitOf, units_of, Step, IsLegal}
use Rattle.tp_model.proofs.Lists.{option_or-some, if_same, if_other}
use Rattle.tp_model.proofs.Histories.{by_steps, element_of-snoc}
use Rattle.tp_model.proofs.WordProofs.{claim_word-snoc, end_of-snoc}
use Rattle.tp_model.proofs.Bridges.{in_one, find_in, outputs_place, end_stays}
use Rattle.tp_model.proofs.Later.{claims_inside}
use Rattle.tp_model.proofs.Attempts.{waiting_below}

module _ (l : Limits) where
  pub in_units : (c u : ℕ) → IsUnitOf l c u → u < units_of l
  in_units c u o =
      let below : c < l.parts = o.0 in
      let last : u < c * l.units + l.units = o.2 in
      let all : suc c * l.units ≤ l.parts * l.units = mul-le-mul_right l.units below in
      omega (arith, suc-mul c l.units)

  pub claimed_inside : (h : List Event) (u : ℕ) (t : UnitClaim) → IsLegal l h → claim_of h u ≡ Some t → u < units_of l
  claimed_inside h u t legal is = in_units t.pass u (claims_inside l h legal u t is)

  -- unit u was committed with an output that has this id
  pub record MadeBy (h : List Event) (i u : ℕ) : Type 0 where
    pub from : ℕ
    pub count : ℕ
    pub committed : end_of h u ≡ Some (Committed from count)
    pub low : from ≤ i
    pub high : i < from + count
    pub inside : u < units_of l

  -- what a unit made is born only when it is committed
  pub by_unit : (h : List Event) → IsLegal l h → (i : ℕ) (x : Element) (u : ℕ) → element_of h i ≡ Some x → x.by ≡ Some u → MadeBy h i u
  by_unit h legal = by_steps l (λ z. (i : ℕ) (x : Element) (u : ℕ) → element_of z i ≡ Some x → x.by ≡ Some u → MadeBy z i u) (λ i x u p q. absurd cc) more h legal
    where
      old_one : (h : List Event) (e : Event) (i u : ℕ) → MadeBy h i u → MadeBy (h ++ e ∷ []) i u
      old_one h e i u m = record { from = m.from; count = m.count; committed = end_stays h (h ++ e ∷ []) u (Committed m.from m.count) (e ∷ [], refl) m.committed; low = m.low; high = m.high; inside = m.inside }

      new_one : (h : List Event) (e : Event) → IsLegal l h → Step l h e → (i : ℕ) (x : Element) (u : ℕ) → find (λ (y : Element). y.id == i) (births e) ≡ Some x → x.by ≡ Some u → MadeBy (h ++ e ∷ []) i u
      new_one h (Enqueue c y) legal step i x u p q = let same : x ≡ y = in_one (find_in i (y ∷ []) x p).0 in let none : x.by ≡ None = ap (λ (z : Element). z.by) same ∙ step.by in absurd cc
      new_one h (Claim c v j n) legal step i x u p q = absurd cc
      new_one h (Commit c v outs) legal step i x u p q =
          let f = find_in i outs x p in
          let t = outputs_place l h c v step.item.root (first_id outs) outs step.outputs x f.0 in
          let by : x.by ≡ Some v = t.2.by in
          let same : v ≡ u = cc in
          let now : end_of (h ++ Commit c v outs ∷ []) v ≡ Some (Committed (first_id outs) (length outs)) =
          end_of-snoc h (Commit c v outs) v ∙ (ap (λ o. option_or o (end_by v (Commit c v outs))) step.open_unit.unfinished ∙ if_same v v (Some (Committed (first_id outs) (length outs))) None refl) in
          record {
            from = first_id outs;
            count = length outs;
            committed = subst (λ z. end_of (h ++ Commit c v outs ∷ []) z ≡ Some (Committed (first_id outs) (length outs))) same now;
            low = subst (λ z. first_id outs ≤ z) f.1 t.0;
            high = subst (λ z. z < first_id outs + length outs) f.1 t.1;
            inside = subst (λ z. z < units_of l) same (claimed_inside h v step.taking legal step.open_unit.claimed);
          }
      new_one h (Abort c v) legal step i x u p q = absurd cc
      new_one h (Kill c j) legal step i x u p q = absurd cc
      new_one h (Requeue c j k) legal step i x u p q = absurd cc

      more : (h : List Event) (e : Event) → IsLegal l h → Step l h e → ((i : ℕ) (x : Element) (u : ℕ) → element_of h i ≡ Some x → x.by ≡ Some u → MadeBy h i u)
          → (i : ℕ) (x : Element) (u : ℕ) → element_of (h ++ e ∷ []) i ≡ Some x → x.by ≡ Some u → MadeBy (h ++ e ∷ []) i u
      more h e legal step old i x u p q = ⊎_elim (λ s. old_one h e i u (old i x u s q)) (λ s. new_one h e legal step i x u s.1 q) (option_or-some (element_of h i) _ x (sym (element_of-snoc h e i) ∙ p))

  -- the attempt in a claim word is at least 1, and within the limit
  pub attempt_range : AreLimits l → (h : List Event) → IsLegal l h → (i n u r : ℕ) → claim_word h i ≡ TakenWord n u r → (1 ≤ n) × (n ≤ l.attempts)
  attempt_range fair h legal = by_steps l (λ z. (i n u r : ℕ) → claim_word z i ≡ TakenWord n u r → (1 ≤ n) × (n ≤ l.attempts)) (λ i n u r p. absurd cc) more h legal
    where
      not_taken : (w : ClaimWord) (n u r : ℕ) → kill_word w ≢ TakenWord n u r
      not_taken FreeWord n u r p = cc
      not_taken (TakenWord m v k) n u r p = cc
      not_taken (KilledWord m v k) n u r p = cc
      not_taken (AgainWord k) n u r p = cc

      after : (h : List Event) (e : Event) → IsLegal l h → Step l h e → (i n u r : ℕ) → (claim_word h i ≡ TakenWord n u r → (1 ≤ n) × (n ≤ l.attempts)) → claim_word_after i (claim_word h i) e ≡ TakenWord n u r → (1 ≤ n) × (n ≤ l.attempts)
      after h (Enqueue c y) legal step i n u r old p = old p
      after h (Claim c v j m) legal step i n u r old p =
          elim (eqb_tells j i) [
            | inl q ↦ let a : TakenWord m v (round_in (claim_word h i)) ≡ TakenWord n u r = sym (if_same j i (TakenWord m v (round_in (claim_word h i))) (claim_word h i) q.1) ∙ p in let same : m ≡ n = cc in
                let some = step.attempt in let below = waiting_below l h j (m - 1) legal fair.attempts.0 step.waits in (omega arith, omega arith)
            | inr q ↦ old (sym (if_other j i (TakenWord m v (round_in (claim_word h i))) (claim_word h i) q.1) ∙ p)
          ]
      after h (Commit c v outs) legal step i n u r old p = old p
      after h (Abort c v) legal step i n u r old p = old p
      after h (Kill c j) legal step i n u r old p =
          elim (eqb_tells j i) [
            | inl q ↦ absurd (not_taken (claim_word h i) n u r (sym (if_same j i (kill_word (claim_word h i)) (claim_word h i) q.1) ∙ p))
            | inr q ↦ old (sym (if_other j i (kill_word (claim_word h i)) (claim_word h i) q.1) ∙ p)
          ]
      after h (Requeue c j k) legal step i n u r old p =
          elim (eqb_tells j i) [
            | inl q ↦ absurd (let a : AgainWord k ≡ TakenWord n u r = sym (if_same j i (AgainWord k) (claim_word h i) q.1) ∙ p in cc)
            | inr q ↦ old (sym (if_other j i (AgainWord k) (claim_word h i) q.1) ∙ p)
          ]

      more : (h : List Event) (e : Event) → IsLegal l h → Step l h e → ((i n u r : ℕ) → claim_word h i ≡ TakenWord n u r → (1 ≤ n) × (n ≤ l.attempts)) → (i n u r : ℕ) → claim_word (h ++ e ∷ []) i ≡ TakenWord n u r → (1 ≤ n) × (n ≤ l.attempts)
      more h e legal step old i n u r p = after h e legal step i n u r (old i n u r) (sym (claim_word-snoc h e i) ∙ p)
