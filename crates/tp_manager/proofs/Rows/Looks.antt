-- What the words that were found say of a row.
use Rattle.tp_model.proofs.WordProofs.{unended}
use Rattle.std.proofs.Common.{◌≡◌, ◌≢◌, ℕ, ◌+◌, ◌<◌, ◌≤◌, nat_lt, Bool, true, false, cond, Option, Some, None, List, [], ◌∷◌, slice_index, refl, sym, ◌∙◌, ap, subst, inl, inr, ⊎_elim, arith}
use Rattle.std.proofs.lemmas.Bool.Decides.{nat_tests}
use mathlib.Core.List.{IsPrefix}
use Rattle.tp_model.specs.declared.types.Element.{Element}
use Rattle.tp_model.specs.declared.types.Limits.{Limits}
use Rattle.tp_model.specs.declared.types.Status.TheVariants.{Waiting, Held, Consumed, Parked}
use Rattle.tp_model.specs.declared.event.Event.{Event}
use Rattle.tp_model.specs.declared.trace.StepKind.{StepKind}
use Rattle.tp_model.specs.History.{IsUnborn, element_of, UnitEnd, Committed, Aborted, end_of, status_of, UnitClaim, claim_of}
use Rattle.tp_model.specs.Words.{TakenWord, claim_word, taken_status}
use Rattle.tp_model.specs.Steps.{IsArea, rows_of, units_of, IsLegal}
use Rattle.tp_model.proofs.Areas.{one_area}
use Rattle.tp_model.proofs.Bodies.{found_whole, four_words}
use Rattle.tp_model.proofs.Bridges.{born_or_not, born_at, found_later}
use Rattle.tp_model.proofs.Later.{committed_born, status_found, status_aborted}
use Rattle.tp_rule.specs.declared.packing.Head.{Head}
use Rattle.tp_rule.specs.declared.packing.Head.TheVariants.{Empty, Filled}
use Rattle.tp_rule.specs.declared.packing.Claim.{Claim}
use Rattle.tp_rule.specs.declared.packing.Claim.TheVariants as claims
use Rattle.tp_rule.specs.Words.{claim_value, head_of}
use Rattle.tp_rule.specs.Steps.{Grew, IsAreaBy, MayBeBorn}
use Rattle.tp_rule.specs.declared.view.Hand.{Hand}
use Rattle.tp_rule.specs.declared.view.Known.TheVariants.{RowHead}
use Rattle.tp_rule.specs.declared.view.View.{View}
use Rattle.tp_manager.specs.declared.row_reads.Birth.{Birth}
use Rattle.tp_manager.specs.Looks.{GoesOn, HeadFound, IsBornAs}
use Rattle.tp_rule.proofs.Births.{by_unit, claimed_inside}

-- after the last row of its part or spare block a scan goes on
pub goes_end : (l k : Limits) → l ≡ k → (i next : ℕ) → (first : ℕ) × IsArea k first next × (first ≤ i) × (i < next) → next ≤ rows_of k → GoesOn l i next
goes_end l k same i next t inside = subst (λ (z : Limits). GoesOn z i next) (sym same) record {
  on = t.3;
  inside = inside;
  area = λ first end other low high. let one = (one_area k t.0 next first end i t.1 other t.2 t.3 low high).1 in omega arith;
}

-- where an element may be born in a row, it may in the later ones of its area
pub ahead_on : (l : Limits) (h : List Event) (i j first end : ℕ) → IsArea l first end → first ≤ i → i ≤ j → j < end → MayBeBorn l h i → MayBeBorn l h j
ahead_on l h i j first end area low later high may = record {
  none = λ from to k other from_low past below. let one = one_area l first end from to j area other (omega arith) high from_low (omega arith) in let same_first = one.0 in let same_end = one.1 in may.none from to k other (omega arith) (omega arith) below;
  last = λ c from to x by from_low below made. let one = one_area l first end from to j area (area_by l h c from to by) (omega arith) high from_low below in let same_first = one.0 in let same_end = one.1 in may.last c from to x by (omega arith) (omega arith) made;
}
  where
    area_by : (l : Limits) (h : List Event) (c from to : ℕ) → IsAreaBy l h c from to → IsArea l from to
    area_by l h c from to by = ⊎_elim (λ part. inl (c, part)) (λ t. inr (t.0, t.1)) by

-- births

pub unborn_if : (h : List Event) (i : ℕ) → ((x : Element) → element_of h i ≡ Some x → ⊥) → IsUnborn h i
unborn_if h i not = ⊎_elim (λ t. absurd (not t.0 (born_at h i t.0 t.1 t.2))) (λ un. un) (born_or_not h i)

same_by : (x : Element) (s r u : ℕ) (b : Option ℕ) (head : Head) → head ≡ Filled s r b → head ≡ head_of x → b ≡ Some u → x.by ≡ Some u
same_by x s r u b head is e q = cc

-- a head that isn't empty is that of the element that is born by now
pub head_now : (kind : StepKind) (f : Hand → Hand) (es : List Event) (v w : View) (i s r : ℕ) (b : Option ℕ) (head : Head) → HeadFound v i head → Grew kind f es v w → head ≡ Filled s r b → (x : Element) → element_of w.seen i ≡ Some x → head ≡ head_of x
head_now kind f es v w i s r b head t g is x p = g.is_so (RowHead i head) (g.knows (RowHead i head) t.knows) (λ empty. let e : Filled s r b ≡ Empty = sym is ∙ empty in absurd cc) x p

-- what isn't born wasn't before
pub unborn_before : (a b : List Event) (i : ℕ) → IsPrefix a b → IsUnborn b i → IsUnborn a i
unborn_before a b i begins un = unborn_if a i (λ x p. let e : None ≡ Some x = sym un ∙ found_later a b begins i x p in absurd cc)

module _ (l : Limits) where
  pub none_outside : (v : View) (i s r u : ℕ) (b : Option ℕ) (head : Head) → head ≡ Filled s r b → b ≡ Some u → HeadFound v i head → IsLegal l v.seen → ¬ (u < units_of l) → IsUnborn v.seen i
  none_outside v i s r u b head is q t legal out = unborn_if v.seen i (λ x p. out (by_unit l v.seen legal i x u p (same_by x s r u b head is (t.born x p) q)).inside)

  -- a unit that isn't one of the table's has not ended
  pub unended_outside : (h : List Event) (u : ℕ) → IsLegal l h → ¬ (u < units_of l) → end_of h u ≡ None
  unended_outside h u legal out = unended l h legal u (go (claim_of h u) refl)
    where
      go : (o : Option UnitClaim) → claim_of h u ≡ o → claim_of h u ≡ None
      go None is = is
      go (Some t) is = absurd (out (claimed_inside l h u t legal is))

  -- the unit has made no element i
  abbrev pub MadeNot : List Event → ℕ → ℕ → Type 0
  MadeNot h i u = (f m : ℕ) → end_of h u ≡ Some (Committed f m) → f ≤ i → i < f + m → ⊥

  pub none_unit : (h : List Event) (i s r u : ℕ) (b : Option ℕ) (head : Head) → head ≡ Filled s r b → b ≡ Some u → ((x : Element) → element_of h i ≡ Some x → head ≡ head_of x) → IsLegal l h → MadeNot h i u → IsUnborn h i
  none_unit h i s r u b head is q told legal not = unborn_if h i (λ x p. let m = by_unit l h legal i x u p (same_by x s r u b head is (told x p) q) in not m.from m.count m.committed m.low m.high)

  pub there_unit : (h : List Event) (i u f m s r : ℕ) (b : Option ℕ) (head : Head) → IsLegal l h → end_of h u ≡ Some (Committed f m) → f ≤ i → i < f + m → head ≡ Filled s r b
      → ((e : Element) → element_of h i ≡ Some e → head ≡ head_of e) → (e : Element) × (element_of h i ≡ Some e) × (head_of e ≡ Filled s r b)
  there_unit h i u f m s r b head legal end_is low high is told = let x = committed_born l h legal u f m i end_is low high in (x.0, x.1, sym (told x.0 x.1) ∙ is)

pub there_later : (h g : List Event) (i : ℕ) (b : Birth) → IsPrefix h g → IsBornAs h i b → IsBornAs g i b
there_later h g i b begins t = (t.0, found_later h g begins i t.0 t.1, t.2)

same_head : (e : Element) (b : Birth) → head_of e ≡ Filled b.stage b.root b.by → (e.stage ≡ b.stage) × (e.root ≡ b.root) × (e.by ≡ b.by)
same_head e b h = (cc, cc, cc)

-- the four words that were found of a born element, one after another, are its body
pub body_there : (l : Limits) (h a b c d : List Event) (i : ℕ) (w x y z : ℕ) → IsLegal l h → IsPrefix h a → IsPrefix h b → IsPrefix h c → IsPrefix h d
    → ((e : Element) → element_of a i ≡ Some e → w ≡ slice_index e.body 0) → ((e : Element) → element_of b i ≡ Some e → x ≡ slice_index e.body 1)
    → ((e : Element) → element_of c i ≡ Some e → y ≡ slice_index e.body 2) → ((e : Element) → element_of d i ≡ Some e → z ≡ slice_index e.body 3)
    → (e : Element) → element_of h i ≡ Some e → w ∷ x ∷ y ∷ z ∷ [] ≡ e.body
body_there l h a b c d i w x y z legal in_a in_b in_c in_d first second third last e p =
    let q = first e (found_later h a in_a i e p) in
    let r = second e (found_later h b in_b i e p) in
    let s = third e (found_later h c in_c i e p) in
    let t = last e (found_later h d in_d i e p) in
    (λ j. q j ∷ r j ∷ s j ∷ t j ∷ []) ∙ sym (four_words e.body (found_whole l h legal i e p))

pub element_there : (h g : List Event) (i : ℕ) (body : List ℕ) (b : Birth) → IsPrefix h g → IsBornAs h i b → ((e : Element) → element_of h i ≡ Some e → body ≡ e.body)
    → ((e : Element) → element_of h i ≡ Some e → e.id ≡ i) → element_of g i ≡ Some (record { id = i; stage = b.stage; root = b.root; body = body; by = b.by })
element_there h g i body b begins t bodies ids =
    let e = t.0 in
    let p = found_later h g begins i e t.1 in
    let s = same_head e b t.2 in
    let id : e.id ≡ i = ids e t.1 in
    let body_is : e.body ≡ body = sym (bodies e t.1) in
    p ∙ ap Some (λ j. record { id = id j; stage = s.0 j; root = s.1 j; body = body_is j; by = s.2 j })

-- statuses

pub claim_is : (x : Claim) (n u r : ℕ) → claim_value x ≡ TakenWord n u r → x ≡ claims.Taken n u r
claim_is claims.Free n u r p = absurd cc
claim_is (claims.Taken m v k) n u r p = cc
claim_is (claims.Killed m v k) n u r p = absurd cc
claim_is (claims.Again k) n u r p = absurd cc

module _ (l : Limits) where
  standing : (a b : List Event) → IsLegal l b → IsPrefix a b → (i n u : ℕ) {r : ℕ} → claim_word a i ≡ TakenWord n u r → (x : Option UnitEnd) → x ≡ end_of b u → x ≢ Some Aborted → taken_status l.attempts n u x ≡ status_of l.attempts b i
  standing a b legal begins i n u is x end_is not = ap (taken_status l.attempts n u) end_is ∙ sym (status_found l a b legal begins i n u is (λ p. not (end_is ∙ p)))

  pub held_yet : (a b : List Event) → IsLegal l b → IsPrefix a b → (i n u : ℕ) {r : ℕ} → claim_word a i ≡ TakenWord n u r → None ≡ end_of b u → Held u n ≡ status_of l.attempts b i
  held_yet a b legal begins i n u is e = standing a b legal begins i n u is None e (λ p. absurd cc)

  pub consumed_now : (a b : List Event) → IsLegal l b → IsPrefix a b → (i n u f m : ℕ) {r : ℕ} → claim_word a i ≡ TakenWord n u r → Some (Committed f m) ≡ end_of b u → Consumed u ≡ status_of l.attempts b i
  consumed_now a b legal begins i n u f m is e = standing a b legal begins i n u is (Some (Committed f m)) e (λ p. absurd cc)

  -- the unit was found aborted, and the same claim was found afterwards
  pub returned : (a b : List Event) → IsLegal l b → IsPrefix a b → (i n u : ℕ) {r : ℕ} → end_of a u ≡ Some Aborted → claim_word b i ≡ TakenWord n u r
      → (n < l.attempts → Waiting n ≡ status_of l.attempts b i) × (l.attempts ≤ n → Parked n ≡ status_of l.attempts b i)
  returned a b legal begins i n u ended is = let s = status_aborted l a b legal begins i n u ended is in go (nat_lt n l.attempts) refl s
    where
      go : (t : Bool) → nat_lt n l.attempts ≡ t → status_of l.attempts b i ≡ cond t (Waiting n) (Parked n) → (n < l.attempts → Waiting n ≡ status_of l.attempts b i) × (l.attempts ≤ n → Parked n ≡ status_of l.attempts b i)
      go true e s = (λ _. sym s, λ high. let below : n < l.attempts = grind (arith, nat_tests) in absurd (omega arith))
      go false e s = (λ below. let above : l.attempts ≤ n = grind (arith, nat_tests) in absurd (omega arith), λ _. sym s)
