-- What a history says of later ones, and what an end of a unit says of the births and claims before it.
use Rattle.std.proofs.Common.{◌≡◌, ◌≢◌, ◌⊎◌, ℕ, suc, ◌+◌, ◌-◌, ◌*◌, ◌<◌, ◌≤◌, ◌==◌, Option, Some, None, List, [], ◌∷◌, ◌++◌, length, refl, sym, ◌∙◌, ap, subst, inl, inr, ⊎_elim, arith, suc-mul, mul-le-mul_right}
use Rattle.std.proofs.lemmas.Bool.Decides.{eqb_tells}
use Rattle.std.specs.List.{find}
use Rattle.std.specs.Option.{option_or}
use mathlib.Core.List.{IsPrefix}
use Rattle.tp_model.specs.declared.types.Element.{Element}
use Rattle.tp_model.specs.declared.types.Limits.{Limits}
use Rattle.tp_model.specs.declared.types.Status.TheVariants.{Waiting, Parked}
use Rattle.tp_model.specs.declared.event.Event.{Event}
use Rattle.tp_model.specs.declared.event.Event.TheVariants.{Enqueue, Claim, Commit, Abort, Kill, Requeue}
use Rattle.tp_model.specs.History.{In, here, there, births, element_of, IsBorn, IsUnborn, UnitClaim, claim_of, UnitEnd, Committed, Aborted, end_by, end_of, first_id, status_of, pass_of}
use Rattle.tp_model.specs.Words.{TakenWord, AgainWord, round_in, kill_word, claim_word_after, claim_word, taken_status, word_status}
use Rattle.tp_model.specs.Steps.{rows_of, IsUnitOf, units_of, IsKillable, AreOutputs, Step, IsLegal}
use Rattle.tp_model.proofs.Lists.{option_or-none, option_or-some, if_same, if_other, some_if}
use Rattle.tp_model.proofs.Histories.{along, by_steps, element_of-kept, element_of-snoc}
use Rattle.tp_model.proofs.WordProofs.{WordIsClaimed, word_claimed, claim_word-snoc, end_of-snoc, status_by_words}
use Rattle.tp_model.proofs.Areas.{use_inside}
use Rattle.tp_model.proofs.Bridges.{append_nil, begins_more, in_none, in_cons, births_of, born_either, end_stays, claim_either, status_taken}

-- one of the outputs has each id of their range
pub output_at : (l : Limits) (h : List Event) (c u root id i : ℕ) (outs : List Element) → AreOutputs l h c u root id outs → id ≤ i → i < id + length outs
    → IsUnborn h i × ((x : Element) × (find (λ (y : Element). y.id == i) outs ≡ Some x))
output_at l h c u root id i [] are low high = absurd (omega arith)
output_at l h c u root id i (y ∷ ys) are low high =
    elim (eqb_tells y.id i) [
      | inl p ↦ (subst (IsUnborn h) (sym are.0.place ∙ p.1) are.0.unborn, (y, if_same y.id i (Some y) (find (λ (z : Element). z.id == i) ys) p.1))
      | inr p ↦
          let at : y.id ≡ id = are.0.place in let not : y.id ≢ i = p.1 in
          let t = output_at l h c u root (id + 1) i ys are.1 (omega arith) (omega arith) in (t.0, (t.1.0, if_other y.id i (Some y) (find (λ (z : Element). z.id == i) ys) p.1 ∙ t.1.1))
    ]

-- what ends a unit
abbrev pub Ends : ℕ → UnitEnd → Event → Type 0
Ends u (Committed f m) e = (c : ℕ) × (outs : List Element) × (e ≡ Commit c u outs) × (f ≡ first_id outs) × (m ≡ length outs)
Ends u Aborted e = (c : ℕ) × (e ≡ Abort c u)

pub ends_by : (u : ℕ) (e : Event) (x : UnitEnd) → end_by u e ≡ Some x → Ends u x e
ends_by u (Enqueue c y) x p = absurd cc
ends_by u (Claim c v i n) x p = absurd cc
ends_by u (Commit c v outs) x p = let q = some_if v u (Committed (first_id outs) (length outs)) x p in
    subst (λ z. Ends u z (Commit c v outs)) q.1 (c, outs, ap (λ z. Commit c z outs) q.0, refl, refl)
ends_by u (Abort c v) x p = let q = some_if v u Aborted x p in subst (λ z. Ends u z (Abort c v)) q.1 (c, ap (λ z. Abort c z) q.0)
ends_by u (Kill c i) x p = absurd cc
ends_by u (Requeue c i k) x p = absurd cc

-- each id of a committed unit's range is born
pub committed_born : (l : Limits) (h : List Event) → IsLegal l h → (u f m i : ℕ) → end_of h u ≡ Some (Committed f m) → f ≤ i → i < f + m → (x : Element) × (element_of h i ≡ Some x)
committed_born l h legal = by_steps l (λ z. (u f m i : ℕ) → end_of z u ≡ Some (Committed f m) → f ≤ i → i < f + m → (x : Element) × (element_of z i ≡ Some x)) (λ u f m i p low high. absurd cc) more h legal
  where
    more : (h : List Event) (e : Event) → IsLegal l h → Step l h e → ((u f m i : ℕ) → end_of h u ≡ Some (Committed f m) → f ≤ i → i < f + m → (x : Element) × (element_of h i ≡ Some x))
        → (u f m i : ℕ) → end_of (h ++ e ∷ []) u ≡ Some (Committed f m) → f ≤ i → i < f + m → (x : Element) × (element_of (h ++ e ∷ []) i ≡ Some x)
    more h e legal step old u f m i p low high = ⊎_elim
        (λ q. let t = old u f m i q low high in (t.0, element_of-kept h (e ∷ []) i t.0 t.1))
        (λ q. let t = ends_by u e (Committed f m) q.1 in let may : Step l h (Commit t.0 u t.1) = subst (Step l h) t.2 step in
        let a : f ≡ first_id t.1 = t.3 in let b : m ≡ length t.1 = t.4 in let o = output_at l h t.0 u may.item.root (first_id t.1) i t.1 may.outputs (omega arith) (omega arith) in
        (o.1.0, element_of-snoc h e i ∙ (ap (λ z. option_or z (find (λ (y : Element). y.id == i) (births e))) o.0 ∙ (ap (λ z. find (λ (y : Element). y.id == i) (births z)) t.2 ∙ o.1.1))))
        (option_or-some (end_of h u) (end_by u e) (Committed f m) (sym (end_of-snoc h e u) ∙ p))

-- an aborted unit has an Abort
pub aborted_by : (h : List Event) (u : ℕ) → end_of h u ≡ Some Aborted → (c : ℕ) × In (Abort c u) h
aborted_by [] u p = absurd cc
aborted_by (e ∷ h) u p = ⊎_elim (λ q. let t = ends_by u e Aborted q in (t.0, subst (λ z. In z (e ∷ h)) t.1 here)) (λ q. let t = aborted_by h u q.1 in (t.0, there t.1))
    (option_or-some (end_by u e) (end_of h u) Aborted p)

-- the unit in a claim word claimed that element
pub claim_taken : (l : Limits) (h : List Event) (i n u : ℕ) {r : ℕ} → IsLegal l h → claim_word h i ≡ TakenWord n u r → (t : UnitClaim) × (claim_of h u ≡ Some t) × (t.item ≡ i)
claim_taken l h i n u legal is = subst (WordIsClaimed h i) is (word_claimed l h i legal)

-- a step takes an element from a unit only once that is aborted
stands_after : (l : Limits) (h : List Event) (e : Event) → IsLegal l h → Step l h e → (i n u : ℕ) {r : ℕ} → claim_word h i ≡ TakenWord n u r → end_of h u ≢ Some Aborted → claim_word_after i (claim_word h i) e ≡ TakenWord n u r
stands_after l h (Enqueue c y) legal step i n u is not = is
stands_after l h (Commit c v outs) legal step i n u is not = is
stands_after l h (Abort c v) legal step i n u is not = is
stands_after l h (Claim c v j m) legal step i n u is not =
    if_other j i (TakenWord m v (round_in (claim_word h i))) (claim_word h i) (λ same. let at = sym (status_by_words l h i legal ∙ ap (word_status l.attempts h) is) ∙ (ap (status_of l.attempts h) (sym same) ∙ step.waits) in go (end_of h u) not at) ∙ is
  where
    go : (x : Option UnitEnd) → x ≢ Some Aborted → taken_status l.attempts n u x ≡ Waiting (m - 1) → ⊥
    go None not e = cc
    go (Some (Committed f k)) not e = cc
    go (Some Aborted) not e = not refl
stands_after l h (Kill c j) legal step i n u is not =
    if_other j i (kill_word (claim_word h i)) (claim_word h i) (λ same. let at = ap (status_of l.attempts h) same ∙ (status_by_words l h i legal ∙ ap (word_status l.attempts h) is) in go (end_of h u) not (subst IsKillable at step.free)) ∙ is
  where
    go : (x : Option UnitEnd) → x ≢ Some Aborted → IsKillable (taken_status l.attempts n u x) → ⊥
    go None not e = e
    go (Some (Committed f k)) not e = e
    go (Some Aborted) not e = not refl
stands_after l h (Requeue c j k) legal step i n u is not =
    if_other j i (AgainWord k) (claim_word h i) (λ same. let at = sym (status_by_words l h i legal ∙ ap (word_status l.attempts h) is) ∙ (ap (status_of l.attempts h) (sym same) ∙ step.parked.1) in go (end_of h u) not at) ∙ is
  where
    go : (x : Option UnitEnd) → x ≢ Some Aborted → taken_status l.attempts n u x ≡ Parked step.parked.0 → ⊥
    go None not e = cc
    go (Some (Committed f m)) not e = cc
    go (Some Aborted) not e = not refl

-- a claim that was seen, whose unit isn't aborted later, is still there later
pub claim_stands : (l : Limits) (a b : List Event) → IsLegal l b → IsPrefix a b → (i n u : ℕ) {r : ℕ} → claim_word a i ≡ TakenWord n u r → end_of b u ≢ Some Aborted → claim_word b i ≡ TakenWord n u r
claim_stands l a b legal begins i n u {r} is not = rw (← begins.1) (along l (λ z. end_of z u ≢ Some Aborted → claim_word z i ≡ TakenWord n u r) more a begins.0 (rw begins.1 legal) (λ _. is) (rw begins.1 not))
  where
    more : (x : List Event) (e : Event) → IsLegal l x → Step l x e → (end_of x u ≢ Some Aborted → claim_word x i ≡ TakenWord n u r) → end_of (x ++ e ∷ []) u ≢ Some Aborted → claim_word (x ++ e ∷ []) i ≡ TakenWord n u r
    more x e legal step old not_yet = let before : end_of x u ≢ Some Aborted = λ p. not_yet (end_stays x (x ++ e ∷ []) u Aborted (e ∷ [], refl) p) in
        claim_word-snoc x e i ∙ stands_after l x e legal step i n u (old before) before

-- where a claim was found, and its unit was aborted later, there was a time at which it still stood and its unit was aborted
module _ (l : Limits) (a : List Event) (i n u r : ℕ) where
  abbrev pub Stood : List Event → Type 0
  Stood z = (p : List Event) × IsPrefix a p × IsPrefix p z × (claim_word p i ≡ TakenWord n u r) × (end_of p u ≡ Some Aborted) × IsLegal l p

  abbrev StandsYet : List Event → Type 0
  StandsYet z = IsPrefix a z × ((claim_word z i ≡ TakenWord n u r) ⊎ Stood z)

  stands_on : (x : List Event) (e : Event) → IsLegal l x → Step l x e → IsPrefix a x → claim_word x i ≡ TakenWord n u r → (o : Option UnitEnd) → end_of x u ≡ o → (claim_word (x ++ e ∷ []) i ≡ TakenWord n u r) ⊎ Stood (x ++ e ∷ [])
  stands_on x e legal step before same (Some Aborted) at = inr (x, before, (e ∷ [], refl), same, at, legal)
  stands_on x e legal step before same None at = inl (claim_word-snoc x e i ∙ stands_after l x e legal step i n u same (λ z. let q = sym at ∙ z in cc))
  stands_on x e legal step before same (Some (Committed f m)) at = inl (claim_word-snoc x e i ∙ stands_after l x e legal step i n u same (λ z. let q = sym at ∙ z in cc))

  stands_more : (x : List Event) (e : Event) → IsLegal l x → Step l x e → StandsYet x → StandsYet (x ++ e ∷ [])
  stands_more x e legal step old = (
    begins_more a x e old.0,
    ⊎_elim
        (λ same. stands_on x e legal step old.0 same (end_of x u) refl)
        (λ t. inr (t.0, t.1, begins_more t.0 x e t.2, t.3, t.4, t.5)) old.1,
  )

  pub stood : (b : List Event) → IsLegal l b → IsPrefix a b → claim_word a i ≡ TakenWord n u r → end_of b u ≡ Some Aborted → Stood b
  stood b legal begins is ended =
      let all : StandsYet (a ++ begins.0) = along l StandsYet stands_more a begins.0 (rw begins.1 legal) (([], append_nil a), inl is) in
      let there : StandsYet b = subst StandsYet begins.1 all in
      ⊎_elim (λ same. (b, begins, ([], append_nil b), same, ended, legal)) (λ t. t) there.1

-- each unit that was claimed is one of its pass's
pub claims_inside : (l : Limits) (h : List Event) → IsLegal l h → (u : ℕ) (t : UnitClaim) → claim_of h u ≡ Some t → IsUnitOf l t.pass u
claims_inside l h legal = by_steps l (λ z. (u : ℕ) (t : UnitClaim) → claim_of z u ≡ Some t → IsUnitOf l t.pass u) (λ u t p. absurd cc) more h legal
  where
    more : (h : List Event) (e : Event) → IsLegal l h → Step l h e → ((u : ℕ) (t : UnitClaim) → claim_of h u ≡ Some t → IsUnitOf l t.pass u) → (u : ℕ) (t : UnitClaim) → claim_of (h ++ e ∷ []) u ≡ Some t → IsUnitOf l t.pass u
    more h e legal step old u t p = ⊎_elim (λ q. old u t q) (λ q. let may : Step l h (Claim t.pass u t.item t.attempt) = subst (Step l h) (sym q) step in may.unit) (claim_either h e t.pass u t.item t.attempt p)

-- the unit in a claim word is one of the table's
pub unit_inside : (l : Limits) (h : List Event) (i n u : ℕ) {r : ℕ} → IsLegal l h → claim_word h i ≡ TakenWord n u r → u < units_of l
unit_inside l h i n u legal is =
    let t = claim_taken l h i n u legal is in
    let o = claims_inside l h legal u t.0 t.1 in
    let below : t.0.pass < l.parts = o.0 in
    let last : u < t.0.pass * l.units + l.units = o.2 in
    let all : suc t.0.pass * l.units ≤ l.parts * l.units = mul-le-mul_right l.units below in
    omega (arith, suc-mul t.0.pass l.units)

-- each born element is in a row of the table
pub births_inside : (l : Limits) (h : List Event) → IsLegal l h → (x : Element) → IsBorn h x → x.id < rows_of l
births_inside l h legal = by_steps l (λ z. (x : Element) → IsBorn z x → x.id < rows_of l) (λ x p. absurd cc) more h legal
  where
    more : (h : List Event) (e : Event) → IsLegal l h → Step l h e → ((x : Element) → IsBorn h x → x.id < rows_of l) → (x : Element) → IsBorn (h ++ e ∷ []) x → x.id < rows_of l
    more h e legal step old x p = ⊎_elim (old x)
        (λ q. use_inside l h (pass_of e) x.id (births_of l h e x step q).0)
        (born_either x h e p)

-- a unit with an Abort has ended
pub abort_ends : (h : List Event) (c u : ℕ) → In (Abort c u) h → end_of h u ≢ None
abort_ends [] c u there_is p = absurd (in_none there_is)
abort_ends (e ∷ h) c u there_is p = let t = option_or-none (end_by u e) (end_of h u) p in
    ⊎_elim (λ same. let q : Some Aborted ≡ None = sym (if_same u u (Some Aborted) None refl) ∙ (ap (end_by u) same ∙ t.0) in absurd cc) (λ q. abort_ends h c u q t.1) (in_cons there_is)

-- what a claim word that was found, and after it the end of its unit, say of the status then: unless the unit was aborted, the claim is still there
pub status_found : (l : Limits) (a b : List Event) → IsLegal l b → IsPrefix a b → (i n u : ℕ) {r : ℕ} → claim_word a i ≡ TakenWord n u r → end_of b u ≢ Some Aborted → status_of l.attempts b i ≡ taken_status l.attempts n u (end_of b u)
status_found l a b legal begins i n u is not = status_taken l b i n u legal (claim_stands l a b legal begins i n u is not)

-- and where the unit was found aborted, and after it the same claim word
pub status_aborted : (l : Limits) (a b : List Event) → IsLegal l b → IsPrefix a b → (i n u : ℕ) {r : ℕ} → end_of a u ≡ Some Aborted → claim_word b i ≡ TakenWord n u r → status_of l.attempts b i ≡ taken_status l.attempts n u (Some Aborted)
status_aborted l a b legal begins i n u ended is = status_taken l b i n u legal is ∙ ap (taken_status l.attempts n u) (end_stays a b u Aborted begins ended)
