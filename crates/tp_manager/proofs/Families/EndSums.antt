-- How many steps a cancel makes at the elements that it goes on from.
use Rattle.std.proofs.Common.{◌≡◌, ◌≢◌, ℕ, zero, suc, ◌+◌, ◌≤◌, ◌==◌, cond, Bool, true, false, Option, Some, None, List, [], ◌∷◌, ◌++◌, length, filter, refl, sym, ◌∙◌, ap, subst, inl, inr, ⊎_elim, arith}
use Rattle.std.proofs.lemmas.Bool.{eq-eqb}
use Rattle.std.proofs.lemmas.Bool.Decides.{eqb_tells}
use Rattle.std.proofs.lemmas.List.Sums.{sum_by-append, sum_by-cons}
use Rattle.std.specs.List.{sum_by}
use mathlib.Core.List.{IsPrefix}
use Rattle.tp_model.specs.declared.types.Element.{Element}
use Rattle.tp_model.specs.declared.types.Limits.{Limits}
use Rattle.tp_model.specs.declared.event.Event.{Event}
use Rattle.tp_model.specs.Accounts.{elements_below}
use Rattle.tp_model.specs.Families.{family}
use Rattle.tp_model.specs.History.{In, here, there, born, element_of}
use Rattle.tp_model.specs.Steps.{IsLegal, rows_of}
use Rattle.tp_model.proofs.Bridges.{element_of-id, find_in, in_cons, in_none, is_born}
use Rattle.tp_model.proofs.Histories.{born-append}
use Rattle.tp_model.proofs.RowTallies.{row_empty, row_full, rows_sum}
use Rattle.tp_manager.specs.Bounds.{each_end_steps, end_steps, end_steps_at, ends_steps}
use Rattle.tp_manager.specs.Endings.{gone_steps}
use Rattle.tp_manager.specs.Families.{and_from}
use Rattle.tp_manager.proofs.Families.Trees.{gone_before, gone_here}

-- sums over lists

module _ {A : Type 0} where
  pub sum_le : (f g : A → ℕ) (xs : List A) → ((x : A) → In x xs → f x ≤ g x) → sum_by f xs ≤ sum_by g xs
  sum_le f g [] le = omega arith
  sum_le f g (x ∷ xs) le =
      let one = le x here in let rest = sum_le f g xs (λ y p. le y (there p)) in
      let a = sum_by-cons f x xs in let b = sum_by-cons g x xs in omega arith

  -- at one of them there are n more
  pub sum_more : (f g : A → ℕ) (n : ℕ) (x : A) (xs : List A) → ((y : A) → f y ≤ g y) → f x + n ≤ g x → In x xs → sum_by f xs + n ≤ sum_by g xs
  sum_more f g n x [] le more p = absurd (in_none p)
  sum_more f g n x (y ∷ ys) le more p =
      let a = sum_by-cons f y ys in let b = sum_by-cons g y ys in ⊎_elim
      (λ same. let one : f y + n ≤ g y = subst (λ z. f z + n ≤ g z) same more in let rest = sum_le f g ys (λ z q. le z) in omega arith)
      (λ q. let one = le y in let rest = sum_more f g n x ys le more q in omega arith)
      (in_cons p)

  pub sum_filter : (test : A → Bool) (f : A → ℕ) (xs : List A) → sum_by f (filter test xs) ≡ sum_by (λ x. cond (test x) (f x) 0) xs
  sum_filter test f [] = refl
  sum_filter test f (x ∷ xs) = go (test x) refl (sum_filter test f xs)
    where
      go : (b : Bool) → test x ≡ b → sum_by f (filter test xs) ≡ sum_by (λ y. cond (test y) (f y) 0) xs → sum_by f (filter test (x ∷ xs)) ≡ sum_by (λ y. cond (test y) (f y) 0) (x ∷ xs)
      go true is rest =
          let all : sum_by f (filter test (x ∷ xs)) ≡ sum_by f (x ∷ filter test xs) = ap (λ b. sum_by f (cond b (x ∷ filter test xs) (filter test xs))) is in
          let first : cond (test x) (f x) 0 ≡ f x = ap (λ b. cond b (f x) 0) is in
          let a = sum_by-cons f x (filter test xs) in let b = sum_by-cons (λ y. cond (test y) (f y) 0) x xs in omega arith
      go false is rest =
          let all : sum_by f (filter test (x ∷ xs)) ≡ sum_by f (filter test xs) = ap (λ b. sum_by f (cond b (x ∷ filter test xs) (filter test xs))) is in
          let first : ◌≡◌ {A = ℕ} (cond (test x) (f x) 0) 0 = ap (λ b. cond b (f x) 0) is in
          let b = sum_by-cons (λ y. cond (test y) (f y) 0) x xs in omega arith

-- of an element that is born
pub in_born : (h : List Event) (i : ℕ) (x : Element) → element_of h i ≡ Some x → In x (born h)
in_born h i x e = (find_in i (born h) x e).0

-- a sum over all that are born, by their ids
below_le : (f g : Element → ℕ) (h : List Event) → ((x : Element) → element_of h x.id ≡ Some x → f x ≤ g x) → (n : ℕ) → sum_by f (elements_below h n) ≤ sum_by g (elements_below h n)
below_le f g h le zero = omega arith
below_le f g h le (suc n) = go (element_of h n) refl (below_le f g h le n)
  where
    next : n + 1 ≡ suc n
    next = omega arith

    go : (o : Option Element) → element_of h n ≡ o → sum_by f (elements_below h n) ≤ sum_by g (elements_below h n) → sum_by f (elements_below h (suc n)) ≤ sum_by g (elements_below h (suc n))
    go None is rest = subst (λ z. sum_by f (elements_below h z) ≤ sum_by g (elements_below h z)) next (subst (λ xs. sum_by f xs ≤ sum_by g xs) (sym (row_empty h n is)) rest)
    go (Some x) is rest =
        let a = sum_by-append f (elements_below h n) (x ∷ []) in let b = sum_by-append g (elements_below h n) (x ∷ []) in
        let c = sum_by-cons f x [] in let d = sum_by-cons g x [] in let one = le x (is_born h n x is) in
        subst (λ z. sum_by f (elements_below h z) ≤ sum_by g (elements_below h z)) next (subst (λ xs. sum_by f xs ≤ sum_by g xs) (sym (row_full h n x is)) (omega arith))

pub born_le : (l : Limits) (f g : Element → ℕ) (h : List Event) → IsLegal l h → ((x : Element) → element_of h x.id ≡ Some x → f x ≤ g x) → sum_by f (born h) ≤ sum_by g (born h)
born_le l f g h legal le = let all = below_le f g h le (rows_of l) in let a = rows_sum l h legal f in let b = rows_sum l h legal g in omega arith

-- what a longer history has is more
pub sum_born : (f : Element → ℕ) (h g : List Event) → IsPrefix h g → sum_by f (born h) ≤ sum_by f (born g)
sum_born f h g begins =
    let all : sum_by f (born (h ++ begins.0)) ≡ sum_by f (born h) + sum_by f (born begins.0) = ap (sum_by f) (born-append h begins.0) ∙ sum_by-append f (born h) (born begins.0) in
    subst (λ z. sum_by f (born h) ≤ sum_by f (born z)) begins.1 (omega arith)

-- the steps of a cancel

module _ (l : Limits) where
  pub end_some : (x : Element) → 1 ≤ end_steps_at l x
  end_some x = go (x.stage == 15)
    where
      go : (b : Bool) → 1 ≤ cond b 1 (end_steps l)
      go true = omega arith
      go false = omega arith

  pub end_all : (x : Element) → x.stage ≢ 15 → end_steps l ≤ end_steps_at l x
  end_all x not = elim (eqb_tells x.stage 15) [ inl p ↦ absurd (not p.1) | inr p ↦ (let same : end_steps_at l x ≡ end_steps l = ap (λ b. cond b 1 (end_steps l)) p.0 in omega arith) ]

  end_most : (x : Element) → end_steps_at l x ≤ end_steps l
  end_most x = go (x.stage == 15)
    where
      go : (b : Bool) → cond b 1 (end_steps l) ≤ end_steps l
      go true = omega arith
      go false = omega arith

  -- no more than for as many of any kind
  pub ends_most : (xs : List Element) → each_end_steps l xs ≤ ends_steps l (length xs)
  ends_most [] = omega arith
  ends_most (x ∷ xs) = let a = sum_by-cons (end_steps_at l) x xs in let one = end_most x in let rest = ends_most xs in omega arith

  one_gone : (b c : Bool) (n : ℕ) → (b ≡ true → c ≡ true) → cond b n 0 ≤ cond c n 0
  one_gone true c n on = let same : cond c n 0 ≡ n = ap (λ z. cond z n 0) (on refl) in omega arith
  one_gone false c n on = omega arith

  none_gone : (xs : List Element) → sum_by (λ x. cond false (end_steps_at l x) 0) xs ≡ 0
  none_gone [] = refl
  none_gone (x ∷ xs) = let rest = none_gone xs in let a = sum_by-cons (λ (y : Element). cond false (end_steps_at l y) 0) x xs in omega arith

  pub gone_none : (h : List Event) → gone_steps l (λ i. false) h ≡ 0
  gone_none h = none_gone (born h)

  off : (b : Bool) (n : ℕ) → (b ≡ true → ⊥) → ◌≡◌ {A = ℕ} (cond b n 0) 0
  off true n not = absurd (not refl)
  off false n not = refl

  -- it goes on from one more
  pub gone_more : (i : ℕ) (gone : ℕ → Bool) (h g : List Event) (x : Element) → IsPrefix h g → element_of h i ≡ Some x → (gone i ≡ true → ⊥)
      → gone_steps l gone h + end_steps_at l x ≤ gone_steps l (and_from i gone) g
  gone_more i gone h g x begins found not =
      let own : x.id ≡ i = element_of-id h i x found in
      let before : ◌≡◌ {A = ℕ} (cond (gone x.id) (end_steps_at l x) 0) 0 = off (gone x.id) (end_steps_at l x) (λ is. not (subst (λ z. gone z ≡ true) own is)) in
      let after : cond (and_from i gone x.id) (end_steps_at l x) 0 ≡ end_steps_at l x = ap (λ b. cond b (end_steps_at l x) 0) (subst (λ z. and_from i gone z ≡ true) (sym own) (gone_here i gone)) in
      let one = sum_more (λ (y : Element). cond (gone y.id) (end_steps_at l y) 0) (λ (y : Element). cond (and_from i gone y.id) (end_steps_at l y) 0) (end_steps_at l x) x (born h)
      (λ y. one_gone (gone y.id) (and_from i gone y.id) (end_steps_at l y) (gone_before i gone y.id)) (omega arith) (in_born h i x found) in
      let all = sum_born (λ (y : Element). cond (and_from i gone y.id) (end_steps_at l y) 0) h g begins in
      omega arith

  -- and from none but the family
  pub gone_few : (root : ℕ) (gone : ℕ → Bool) (h : List Event) → IsLegal l h → ((x : Element) → element_of h x.id ≡ Some x → gone x.id ≡ true → x.root ≡ root) → gone_steps l gone h ≤ each_end_steps l (family h root)
  gone_few root gone h legal only =
      let less = born_le l (λ (y : Element). cond (gone y.id) (end_steps_at l y) 0) (λ (y : Element). cond (y.root == root) (end_steps_at l y) 0) h legal
      (λ y p. one_gone (gone y.id) (y.root == root) (end_steps_at l y) (λ is. eq-eqb y.root root (only y p is))) in
      let same = sum_filter (λ (y : Element). y.root == root) (end_steps_at l) (born h) in
      omega arith
