-- The first element of a request: its own one, or the first that the index has of it.
use Rattle.std.proofs.Common.{◌≡◌, ◌≢◌, ◌==◌, ◌&&◌, ◌≤◌, ◌<◌, ◌^◌, nat_le, nat_lt, ℕ, Bool, true, false, is_none, if◌then◌else◌, inl, inr, Option, Some, None, List, refl, sym, ◌∙◌, ap, subst, arith}
use Rattle.std.proofs.lemmas.Bool.Decides.{nat_tests}
use Rattle.tp_store.specs.declared.element.Element.{Element}
use Rattle.tp_store.specs.declared.element.Status.{Status}
use Rattle.tp_store.specs.declared.element.Status.TheVariants.{Waiting, Held, Consumed, Parked, Killed}
use Rattle.tp_store.specs.Elements.{Entry, alive_of, element_at, family_of, first_in, is_group, unless_own}
use Rattle.tp_store.specs.Indexes.{has, IsFirstFrom}
use Rattle.tp_store.specs.Indexing.{Places}
use Rattle.tp_store.specs.Shelves.{AreSorted, earlier, IsFoundBy, IsIndexOf, own_of, stands}
use Rattle.tp_store.proofs.Finding.{at_most, both, find_first, find_none}
use Rattle.tp_store.proofs.Looking.{none_is}

same : (m n : ℕ) → (m == n) ≡ true → m ≡ n
same m n h = grind (arith, nat_tests)

itself : (n : ℕ) → (n == n) ≡ true
itself n = grind (arith, nat_tests)

apart : (m n : ℕ) → m ≢ n → (m == n) ≡ false
apart m n h = grind (arith, nat_tests)

not_both : {b : Bool} → b ≡ true → b ≡ false → ⊥
not_both yes_it no_it = absurd cc

-- an element is in no group but its request's
abbrev pub IsOfRequest : (Element → Option ℕ) → Type 0
IsOfRequest of = (e : Element) (g : ℕ) → is_group g (of e) ≡ true → e.root ≡ g

pub family_is : IsOfRequest family_of
family_is e g h = same e.root g h

pub alive_is : IsOfRequest alive_of
alive_is e g h = go e.status h
  where
    go : (s : Status) → is_group g (alive_of (record e { status = s })) ≡ true → e.root ≡ g
    go (Waiting n) h = same e.root g h
    go (Held u n) h = same e.root g h
    go (Parked n) h = same e.root g h
    go (Consumed u) h = absurd cc
    go Killed h = absurd cc

module _ (of : Element → Option ℕ) (request : IsOfRequest of) (root : ℕ) where
  -- what the index has is one of the group
  pub had : (i : ℕ) (x : Option Element) → stands (unless_own of) root i x ≡ true → stands (λ j. of) root i x ≡ true
  had i None h = absurd cc
  had i (Some e) h = go (e.root == i) h
    where
      go : (b : Bool) → is_group root (if b then None else of e) ≡ true → is_group root (of e) ≡ true
      go true h = absurd cc
      go false h = h

  -- and it has each but the own one
  pub others : (i : ℕ) (x : Option Element) → root ≢ i → stands (unless_own of) root i x ≡ false → stands (λ j. of) root i x ≡ false
  others i None other h = refl
  others i (Some e) other h = go (e.root == i) refl h (is_group root (of e)) refl
    where
      go : (b : Bool) → (e.root == i) ≡ b → is_group root (if b then None else of e) ≡ false → (c : Bool) → is_group root (of e) ≡ c → is_group root (of e) ≡ false
      go true at h true is = let one = request e root is in let two = same e.root i at in absurd (other (omega arith))
      go true at h false is = is
      go false at h c is = h

  module _ (from : ℕ) where
    within : from ≤ root → nat_le from root ≡ true
    within low = grind (arith, nat_tests)

    differs : (m n : ℕ) → (m == n) ≡ false → m ≢ n
    differs m n h e = not_both (subst (λ k. (m == k) ≡ true) e (itself m)) h

    -- where there is no own one, the group has none at that id
    own_none : (x : Option Element) → own_of of root from x ≡ None → from ≤ root → stands (λ j. of) root root x ≡ false
    own_none None h low = refl
    own_none (Some e) h low = go (is_group root (of e)) h
      where
        here : Entry
        here = (root, e)

        go : (b : Bool) → (if nat_le from root && b then Some here else None) ≡ None → b ≡ false
        go true h = let got = rw (within low) at h in absurd cc
        go false h = refl

    -- where there is one, it is this element
    record IsOwn (y : Entry) (x : Option Element) : Type 0 where
      one : Element
      place : y ≡ (root, one)
      found : x ≡ Some one
      low : from ≤ root
      member : is_group root (of one) ≡ true

    own_is : (y : Entry) (x : Option Element) → own_of of root from x ≡ Some y → IsOwn y x
    own_is y None h = absurd cc
    own_is y (Some e) h = go (nat_le from root && is_group root (of e)) refl h
      where
        here : Entry
        here = (root, e)

        go : (b : Bool) → (nat_le from root && is_group root (of e)) ≡ b → (if b then Some here else None) ≡ Some y → IsOwn y (Some e)
        go true b h = let parts = both (nat_le from root) (is_group root (of e)) b in let that : here ≡ y = cc in record { one = e; place = sym that; found = refl; low = at_most from root parts.0; member = parts.1 }
        go false b h = absurd cc

    module _ (es : List Entry) (places : Places) (sorted : AreSorted es) (fits : (i : ℕ) → 2 ^ 64 ≤ i → element_at i es ≡ None) (is : IsIndexOf (unless_own of) es places) where
      -- where the index has none, no other is there
      none_had : IsFoundBy es places root from None → (i : ℕ) → from ≤ i → stands (unless_own of) root i (element_at i es) ≡ false
      none_had (inl none) i low = go (nat_le (2 ^ 64) i) refl
        where
          smaller : (i : ℕ) → nat_le (2 ^ 64) i ≡ false → i < 2 ^ 64
          smaller i h = grind (arith, nat_tests)

          go : (b : Bool) → nat_le (2 ^ 64) i ≡ b → stands (unless_own of) root i (element_at i es) ≡ false
          go true h = rw (fits i (at_most _ _ h)) refl
          go false h = sym (is root i) ∙ none i low (smaller i h)
      none_had (inr (id, first, missing)) i low = absurd (not_both (subst (λ x. stands (unless_own of) root id x ≡ true) missing (sym (is root id) ∙ first.1)) refl)

      -- an id that has neither an own one nor another has none
      lacks : own_of of root from (element_at root es) ≡ None → (i : ℕ) → from ≤ i → stands (unless_own of) root i (element_at i es) ≡ false → stands (λ j. of) root i (element_at i es) ≡ false
      lacks none i low other = go (root == i) refl
        where
          go : (b : Bool) → (root == i) ≡ b → stands (λ j. of) root i (element_at i es) ≡ false
          go true at = subst (λ j. stands (λ k. of) root j (element_at j es) ≡ false) (same root i at) (own_none (element_at root es) none (let e = same root i at in omega arith))
          go false at = others i (element_at i es) (differs root i at) other

      member : (x : Entry) → has places root x.0 ≡ true → element_at x.0 es ≡ Some x.1 → is_group root (of x.1) ≡ true
      member x in_it there = subst (λ y. stands (λ j. of) root x.0 y ≡ true) there (had x.0 (element_at x.0 es) (sym (is root x.0) ∙ in_it))

      -- the own one is first, where no other comes before
      own_first : (y : Entry) → IsOwn y (element_at root es) → ((i : ℕ) → from ≤ i → i < root → stands (unless_own of) root i (element_at i es) ≡ false) → Some y ≡ first_in of root from es
      own_first y own none = ap Some own.place ∙ sym (find_first (λ j. of) root from root own.one es sorted own.found own.low own.member (λ i low high. others i (element_at i es) (λ e. absurd (before i high e)) (none i low high)))
        where
          before : (i : ℕ) → i < root → root ≡ i → ⊥
          before i high e = omega arith

      -- the earlier one of the two is the first
      pub earlier_is : (own other : Option Entry) → own_of of root from (element_at root es) ≡ own → IsFoundBy es places root from other → earlier own other ≡ first_in of root from es
      earlier_is None None own found = sym (find_none (λ j. of) root from es sorted (λ i low. lacks own i low (none_had found i low)))
      earlier_is None (Some x) own (first, there) = sym (find_first (λ j. of) root from x.0 x.1 es sorted there first.0 (member x first.1 there) (λ i low high. lacks own i low (sym (is root i) ∙ first.2 i low high)))
      earlier_is (Some y) None own found = own_first y (own_is y _ own) (λ i low high. none_had found i low)
      earlier_is (Some y) (Some x) own (first, there) = go (nat_lt x.0 y.0) refl
        where
          mine : IsOwn y (element_at root es)
          mine = own_is y _ own

          at_root : y.0 ≡ root
          at_root = ap (λ (z : Entry). z.0) mine.place

          below : nat_lt x.0 y.0 ≡ true → x.0 < root
          below h = let low = less_is x.0 y.0 h in omega (arith, at_root)
            where
              less_is : (m n : ℕ) → nat_lt m n ≡ true → m < n
              less_is m n h = grind (arith, nat_tests)

          above : nat_lt x.0 y.0 ≡ false → root ≤ x.0
          above h = let low = more_is x.0 y.0 h in omega (arith, at_root)
            where
              more_is : (m n : ℕ) → nat_lt m n ≡ false → n ≤ m
              more_is m n h = grind (arith, nat_tests)

          before : (i : ℕ) → i < root → root ≢ i
          before i high e = omega arith

          go : (b : Bool) → nat_lt x.0 y.0 ≡ b → (if b then Some x else Some y) ≡ first_in of root from es
          go true h = sym (find_first (λ j. of) root from x.0 x.1 es sorted there first.0 (member x first.1 there) (λ i low high. others i (element_at i es) (before i (let b = below h in omega arith)) (sym (is root i) ∙ first.2 i low high)))
          go false h = own_first y mine (λ i low high. sym (is root i) ∙ first.2 i low (let a = above h in omega arith))

      -- where there is an own one there is a first one
      pub own_there : (y : Entry) → own_of of root from (element_at root es) ≡ Some y → false ≡ is_none (first_in of root from es)
      own_there y own = go (first_in of root from es) refl
        where
          mine : IsOwn y (element_at root es)
          mine = own_is y _ own

          go : (r : Option Entry) → first_in of root from es ≡ r → false ≡ is_none r
          go (Some x) h = refl
          go None h = absurd (not_both mine.member (none_is of root from es h root mine.one mine.found mine.low))

      -- and else where the index has one
      pub other_there : (other : Option ℕ) → own_of of root from (element_at root es) ≡ None → IsFirstFrom places root from other → is_none other ≡ is_none (first_in of root from es)
      other_there None own found = ap is_none (earlier_is None None own (inl found))
      other_there (Some id) own found = go (element_at id es) refl
        where
          go : (x : Option Element) → element_at id es ≡ x → false ≡ is_none (first_in of root from es)
          go None missing = absurd (not_both (subst (λ x. stands (unless_own of) root id x ≡ true) missing (sym (is root id) ∙ found.1)) refl)
          go (Some e) there = ap is_none (earlier_is None (Some (id, e)) own (found, there))
