-- A walk comes to each element of a family once, and leaves out none.
use Rattle.std.proofs.Common.{◌≡◌, ◌≢◌, ◌⊎◌, ℕ, zero, suc, ◌+◌, ◌<◌, ◌≤◌, ◌==◌, ◌||◌, cond, Bool, true, false, Option, Some, None, List, [], ◌∷◌, ◌++◌, length, filter, refl, sym, ◌∙◌, ap, subst, inl, inr, ⊎_elim, arith, length-append}
use Rattle.std.proofs.lemmas.Bool.{cases_eq, eq-eqb}
use Rattle.std.proofs.lemmas.Bool.Decides.{eqb_tells}
use Rattle.std.proofs.lemmas.List.Elements.{filter-append}
use Rattle.std.proofs.lemmas.List.Sums.{sum_by-append, sum_by-cons}
use Rattle.std.specs.List.{sum_by}
use mathlib.Core.List.{IsPrefix}
use Rattle.tp_model.specs.declared.types.Element.{Element}
use Rattle.tp_model.specs.declared.types.Limits.{Limits}
use Rattle.tp_model.specs.declared.event.Event.{Event}
use Rattle.tp_model.specs.declared.event.Event.TheVariants.{Enqueue, Claim, Commit, Abort, Kill, Requeue}
use Rattle.tp_model.specs.Accounts.{elements_below}
use Rattle.tp_model.specs.History.{In, IsBorn, UnitClaim, Committed, births, born, first_id, claim_of, element_of, end_of}
use Rattle.tp_model.specs.Families.{IsRequest, family}
use Rattle.tp_model.specs.Steps.{rows_of, IsLegal, Step}
use Rattle.tp_model.proofs.Bridges.{born_at, born_either, element_of-id, found_later, in_none, in_one, is_born, outputs_place, taking_later}
use Rattle.tp_model.proofs.Histories.{born-append, by_steps}
use Rattle.tp_model.proofs.Descents.{family_is_tree, output_of}
use Rattle.tp_model.proofs.RowTallies.{rows_sum, row_empty, row_full}
use Rattle.tp_manager.specs.Families.{Reached, IsComeTo, IsOutputFrom, Tree, and_from}
use Rattle.tp_manager.specs.Families.{count_below, in_family, is_member}
use Rattle.tp_manager.proofs.Accounts.Counts.{count_le, count_most, or_left, or_right}

-- numbers from which the walk has gone on

or_none : (b : Bool) → (b || false) ≡ b
or_none true = refl
or_none false = refl

gone_other : (i : ℕ) (gone : ℕ → Bool) (j : ℕ) → j ≢ i → and_from i gone j ≡ gone j
gone_other i gone j differ = elim (eqb_tells j i) [ inl p ↦ absurd (differ p.1) | inr p ↦ ap (λ b. gone j || b) p.0 ∙ or_none (gone j) ]

pub gone_here : (i : ℕ) (gone : ℕ → Bool) → and_from i gone i ≡ true
gone_here i gone = or_right (gone i) (i == i) (eq-eqb i i refl)

pub gone_before : (i : ℕ) (gone : ℕ → Bool) (j : ℕ) → gone j ≡ true → and_from i gone j ≡ true
gone_before i gone j is = or_left (gone j) (j == i) is

pub gone_either : (i : ℕ) (gone : ℕ → Bool) (j : ℕ) → and_from i gone j ≡ true → (j ≡ i) ⊎ (gone j ≡ true)
gone_either i gone j is = elim (cases_eq j i) [ inl q ↦ inl q | inr q ↦ inr (sym (gone_other i gone j q) ∙ is) ]

bits : (b c : Bool) → b ≡ c → ◌≡◌ {A = ℕ} (cond b 1 0) (cond c 1 0)
bits b c e = ap (λ z. cond z 1 0) e

bit_on : (b : Bool) → b ≡ true → ◌≡◌ {A = ℕ} (cond b 1 0) 1
bit_on b e = bits b true e

bit_off : (b : Bool) → (b ≡ true → ⊥) → ◌≡◌ {A = ℕ} (cond b 1 0) 0
bit_off true not = absurd (not refl)
bit_off false not = refl

none_gone : (n : ℕ) → count_below (λ i. false) n ≡ 0
none_gone zero = refl
none_gone (suc n) = let rest = none_gone n in omega arith

none_more : (i : ℕ) (gone : ℕ → Bool) (n : ℕ) → n ≤ i → count_below (and_from i gone) n ≡ count_below gone n
none_more i gone zero low = refl
none_more i gone (suc n) low =
    let rest = none_more i gone n (omega arith) in
    let same = bits (and_from i gone n) (gone n) (gone_other i gone n (λ q. omega arith)) in
    omega arith

one_more : (i : ℕ) (gone : ℕ → Bool) (n : ℕ) → i < n → (gone i ≡ true → ⊥) → count_below (and_from i gone) n ≡ count_below gone n + 1
one_more i gone zero less not = absurd (omega arith)
one_more i gone (suc n) less not = elim (cases_eq n i) [
  | inl q ↦
      let rest = none_more i gone n (omega arith) in
      let on = bit_on (and_from i gone n) (subst (λ z. and_from i gone z ≡ true) (sym q) (gone_here i gone)) in
      let off = bit_off (gone n) (λ is. not (subst (λ z. gone z ≡ true) q is)) in
      omega arith
  | inr q ↦
      let rest = one_more i gone n (omega arith) not in
      let same = bits (and_from i gone n) (gone n) (gone_other i gone n q) in
      omega arith
]

-- a family has a root, which is a client's

request_on : (h g : List Event) (root : ℕ) → IsPrefix h g → IsRequest h root → IsRequest g root
request_on h g root begins r = (r.0, found_later h g begins root r.0 r.1, r.2)

root_made : (l : Limits) (h : List Event) (e : Event) → Step l h e → ((x : Element) → IsBorn h x → IsRequest h x.root) → (x : Element) → In x (births e) → IsBorn (h ++ e ∷ []) x → IsRequest (h ++ e ∷ []) x.root
root_made l h (Enqueue c y) step old x p is =
    let own : (x.root ≡ x.id) × (x.by ≡ None) = subst (λ (z : Element). (z.root ≡ z.id) × (z.by ≡ None)) (sym (in_one p)) (step.root, step.by) in
    (x, born_at (h ++ Enqueue c y ∷ []) x.root x is (sym own.0), own.1)
root_made l h (Claim c u i n) step old x p is = absurd (in_none p)
root_made l h (Commit c u outs) step old x p is =
    let o = outputs_place l h c u step.item.root (first_id outs) outs step.outputs x p in
    subst (IsRequest (h ++ Commit c u outs ∷ [])) (sym o.2.root_is) (request_on h (h ++ Commit c u outs ∷ []) step.item.root (Commit c u outs ∷ [], refl) (old step.item (is_born h step.taking.item step.item step.taken)))
root_made l h (Abort c u) step old x p is = absurd (in_none p)
root_made l h (Kill c i) step old x p is = absurd (in_none p)
root_made l h (Requeue c i k) step old x p is = absurd (in_none p)

pub has_root : (l : Limits) (h : List Event) → IsLegal l h → (x : Element) → IsBorn h x → IsRequest h x.root
has_root l h legal = by_steps l (λ z. (x : Element) → IsBorn z x → IsRequest z x.root) (λ x is. absurd cc)
    (λ z e before step old x is. ⊎_elim (λ earlier. request_on z (z ++ e ∷ []) x.root (e ∷ [], refl) (old x earlier)) (λ new. root_made l z e step old x new is) (born_either x z e is)) h legal

-- how many rows have an element of the family

module _ (root : ℕ) where
  abbrev member : Element → ℕ
  member x = cond (x.root == root) 1 0

  members_rows : (h : List Event) (n : ℕ) → count_below (in_family root h) n ≡ sum_by member (elements_below h n)
  members_rows h zero = refl
  members_rows h (suc n) = go (element_of h n) refl (members_rows h n)
    where
      next : n + 1 ≡ suc n
      next = omega arith

      go : (o : Option Element) → element_of h n ≡ o → count_below (in_family root h) n ≡ sum_by member (elements_below h n) → count_below (in_family root h) (suc n) ≡ sum_by member (elements_below h (suc n))
      go None is rest =
          let bit = bits (in_family root h n) false (ap (is_member root) is) in
          let same : sum_by member (elements_below h (suc n)) ≡ sum_by member (elements_below h n) = ap (λ z. sum_by member (elements_below h z)) (sym next) ∙ ap (sum_by member) (row_empty h n is) in
          omega arith
      go (Some x) is rest =
          let bit = bits (in_family root h n) (x.root == root) (ap (is_member root) is) in
          let one : sum_by member (x ∷ []) ≡ member x = sum_by-cons member x [] ∙ (omega arith) in
          let same : sum_by member (elements_below h (suc n)) ≡ sum_by member (elements_below h n) + sum_by member (x ∷ []) =
          ap (λ z. sum_by member (elements_below h z)) (sym next) ∙ (ap (sum_by member) (row_full h n x is) ∙ sum_by-append member (elements_below h n) (x ∷ [])) in
          omega arith

  members_kept : (xs : List Element) → sum_by member xs ≡ length (filter (λ (e : Element). e.root == root) xs)
  members_kept [] = refl
  members_kept (x ∷ xs) = go (x.root == root) refl (members_kept xs)
    where
      go : (b : Bool) → (x.root == root) ≡ b → sum_by member xs ≡ length (filter (λ (e : Element). e.root == root) xs) → sum_by member (x ∷ xs) ≡ length (filter (λ (e : Element). e.root == root) (x ∷ xs))
      go true is rest =
          let first = bits (x.root == root) true is in
          let all : length (filter (λ (e : Element). e.root == root) (x ∷ xs)) ≡ suc (length (filter (λ (e : Element). e.root == root) xs)) =
          ap (λ b. length (cond b (x ∷ filter (λ (e : Element). e.root == root) xs) (filter (λ (e : Element). e.root == root) xs))) is in
          let more = sum_by-cons member x xs in omega arith
      go false is rest =
          let first = bits (x.root == root) false is in
          let all : length (filter (λ (e : Element). e.root == root) (x ∷ xs)) ≡ length (filter (λ (e : Element). e.root == root) xs) =
          ap (λ b. length (cond b (x ∷ filter (λ (e : Element). e.root == root) xs) (filter (λ (e : Element). e.root == root) xs))) is in
          let more = sum_by-cons member x xs in omega arith

  pub members_are : (l : Limits) (h : List Event) → IsLegal l h → count_below (in_family root h) (rows_of l) ≡ length (family h root)
  members_are l h legal = members_rows h (rows_of l) ∙ (rows_sum l h legal member ∙ members_kept (born h))

-- a family only grows
pub family_grows : (h g : List Event) (root : ℕ) → IsPrefix h g → length (family h root) ≤ length (family g root)
family_grows h g root begins =
    let test : Element → Bool = λ (x : Element). x.root == root in
    let all : length (family (h ++ begins.0) root) ≡ length (family h root) + length (filter test (born begins.0)) =
    ap (λ xs. length (filter test xs)) (born-append h begins.0) ∙ (ap length (filter-append test (born h) (born begins.0)) ∙ length-append (family h root) (filter test (born begins.0))) in
    subst (λ z. length (family h root) ≤ length (family z root)) begins.1 (omega arith)

-- an output of the unit that consumed an element of the family
pub outputs_from : (l : Limits) (root : ℕ) (h : List Event) (i u f m j : ℕ) (t : UnitClaim) (y : Element) → IsLegal l h → element_of h i ≡ Some y → y.root ≡ root
    → claim_of h u ≡ Some t → t.item ≡ i → end_of h u ≡ Some (Committed f m) → f ≤ j → j < f + m → IsOutputFrom h root i j
outputs_from l root h i u f m j t y legal born of claimed item ended low high =
    let o = output_of l h legal u f m j ended low high in
    let one : o.taking ≡ t = let a = o.claimed in cc in
    let at : element_of h i ≡ Some o.taken = ap (element_of h) (sym (ap (λ (z : UnitClaim). z.item) one ∙ item)) ∙ o.taken_is in
    let same : o.taken ≡ y = cc in
    (o.item, o.found, o.root ∙ (ap (λ (z : Element). z.root) same ∙ of), u, t, o.by, claimed, item)

-- an element has one maker, and a unit one claim

same_by : (h : List Event) (j : ℕ) (x y : Element) (u : ℕ) → element_of h j ≡ Some x → element_of h j ≡ Some y → y.by ≡ Some u → x.by ≡ Some u
same_by h j x y u a b by = let same : x ≡ y = cc in ap (λ (e : Element). e.by) same ∙ by

not_own : (x : Element) (u : ℕ) → x.by ≡ None → x.by ≡ Some u → ⊥
not_own x u none some = cc

same_unit : (x : Element) (u v : ℕ) → x.by ≡ Some u → x.by ≡ Some v → u ≡ v
same_unit x u v a b = cc

same_item : (h : List Event) (u v : ℕ) (s t : UnitClaim) → u ≡ v → claim_of h u ≡ Some s → claim_of h v ≡ Some t → s.item ≡ t.item
same_item h u v s t unit a b = let at : claim_of h v ≡ Some s = ap (claim_of h) (sym unit) ∙ a in let same : s ≡ t = cc in ap (λ (z : UnitClaim). z.item) same

module _ (l : Limits) (root : ℕ) where
  come_later : (gone : ℕ → Bool) (h g : List Event) (i : ℕ) → IsPrefix h g → IsComeTo h root gone i → IsComeTo g root gone i
  come_later gone h g i begins c = (c.0, found_later h g begins i c.0 c.1, c.2, ⊎_elim (λ own. inl own) (λ p. inr (p.0, p.1, p.2, taking_later h g begins p.0 p.1 p.3, p.4)) c.3)

  come_wider : (i : ℕ) (gone : ℕ → Bool) (h : List Event) (j : ℕ) → IsComeTo h root gone j → IsComeTo h root (and_from i gone) j
  come_wider i gone h j c = (c.0, c.1, c.2, ⊎_elim (λ own. inl own) (λ p. inr (p.0, p.1, p.2, p.3, gone_before i gone p.1.item p.4)) c.3)

  pub tree_begins : (Left : ℕ → Type 0) (h : List Event) → IsLegal l h → IsRequest h root → Left root → ((i : ℕ) → Left i → i ≡ root) → Tree l root 0 Left (λ i. false) h
  tree_begins Left h legal r left only = record {
    counted = none_gone (rows_of l);
    apart = λ i q is. absurd cc;
    root_too = inl left;
    each = λ i q. ⊎_elim (λ here. subst (IsComeTo h root (λ z. false)) (sym (only i here)) first) (λ is. absurd cc) q;
  }
    where
      own : r.0.root ≡ root
      own = ⊎_elim
          (λ p. sym p.0 ∙ element_of-id h root r.0 r.1)
          (λ f. let e : None ≡ Some f.unit = sym r.2 ∙ f.by in absurd cc)
          (family_is_tree l h r.0 legal (is_born h root r.0 r.1))

      first : IsComeTo h root (λ z. false) root
      first = (r.0, r.1, own, inl (refl, r.2))

  -- an output of an element that is taken from those left wasn't come to before
  child_new : (k i j : ℕ) (Left : ℕ → Type 0) (gone : ℕ → Bool) (h g : List Event) → IsPrefix h g → Tree l root k Left gone h → Left i → IsOutputFrom g root i j → Reached Left gone j → ⊥
  child_new k i j Left gone h g begins t left o r =
      let c = come_later gone h g j begins (t.each j r) in
      let by = same_by g j c.0 o.0 o.3 c.1 o.1 o.5 in
      ⊎_elim
      (λ own. not_own c.0 o.3 own.1 by)
      (λ p.
      let unit = same_unit c.0 p.0 o.3 p.2 by in
      let item = same_item g p.0 o.3 p.1 o.4 unit p.3 o.6 in
      t.apart i left (subst (λ z. gone z ≡ true) (item ∙ o.7) p.4))
      c.3

  -- the walk goes on from element i, and comes to its outputs
  pub tree_on : (k i : ℕ) (Left Next Adds : ℕ → Type 0) (gone : ℕ → Bool) (h g : List Event) → IsPrefix h g → i < rows_of l → Left i
      → ((j : ℕ) → Next j → (Left j × (j ≢ i)) ⊎ Adds j) → ((j : ℕ) → Left j → j ≢ i → Next j) → ((j : ℕ) → Adds j → IsOutputFrom g root i j)
      → Tree l root k Left gone h → Tree l root (k + 1) Next (and_from i gone) g
  tree_on k i Left Next Adds gone h g begins inside left only kept adds t = record {
    counted = one_more i gone (rows_of l) inside (t.apart i left) ∙ ap (λ z. z + 1) t.counted;
    apart = λ j next is. ⊎_elim
        (λ old. ⊎_elim (λ q. old.1 q) (λ before. t.apart j old.0 before) (gone_either i gone j is))
        (λ new. child_new k i j Left gone h g begins t left (adds j new) (⊎_elim (λ q. inl (subst Left (sym q) left)) (λ before. inr before) (gone_either i gone j is)))
        (only j next);
    root_too = ⊎_elim
        (λ old. elim (cases_eq root i) [ inl q ↦ inr (subst (λ z. and_from i gone z ≡ true) (sym q) (gone_here i gone)) | inr differ ↦ inl (kept root old differ) ])
        (λ before. inr (gone_before i gone root before))
        t.root_too;
    each = λ j r. ⊎_elim
        (λ next. ⊎_elim (λ old. came j (inl old.0)) (λ new. made j (adds j new)) (only j next))
        (λ is. ⊎_elim (λ q. came j (inl (subst Left (sym q) left))) (λ before. came j (inr before)) (gone_either i gone j is))
        r;
  }
    where
      came : (j : ℕ) → Reached Left gone j → IsComeTo g root (and_from i gone) j
      came j r = come_wider i gone g j (come_later gone h g j begins (t.each j r))

      made : (j : ℕ) → IsOutputFrom g root i j → IsComeTo g root (and_from i gone) j
      made j o = (o.0, o.1, o.2, inr (o.3, o.4, o.5, o.6, subst (λ z. and_from i gone z ≡ true) (sym o.7) (gone_here i gone)))

  -- where nothing is left, the walk has gone on from all that it came to
  pub all_gone : (Left : ℕ → Type 0) (gone : ℕ → Bool) → ((i : ℕ) → ¬ Left i) → (j : ℕ) → Reached Left gone j → gone j ≡ true
  all_gone Left gone none j r = ⊎_elim (λ left. absurd (none j left)) (λ is. is) r

  -- a family has no more elements than there are rows
  pub family_few : (h : List Event) → IsLegal l h → length (family h root) ≤ rows_of l
  family_few h legal = let all = members_are root l h legal in let most = count_most (in_family root h) (rows_of l) in omega arith

  -- and these are no more than the family has
  pub tree_few : (k : ℕ) (Left : ℕ → Type 0) (gone : ℕ → Bool) (h : List Event) → IsLegal l h → Tree l root k Left gone h → k ≤ length (family h root)
  tree_few k Left gone h legal t =
      let all = members_are root l h legal in
      let less = count_le gone (in_family root h) (rows_of l) (λ i inside is. let c = t.each i (inr is) in ap (is_member root) c.1 ∙ eq-eqb c.0.root root c.2) in
      let k_is = t.counted in
      omega arith
