-- The first element of a group: what an index says, and a walk over the elements.
use Rattle.std.proofs.Common.{◌≡◌, ◌==◌, ◌&&◌, ◌≤◌, ◌<◌, ◌^◌, nat_le, ℕ, Bool, true, false, cond, not, is_none, is_some, if◌then◌else◌, inl, inr, Option, Some, None, List, [], ◌∷◌, refl, sym, ◌∙◌, ap, subst, arith}
use Rattle.std.specs.Ordering.{nat_cmp}
use Rattle.std.specs.declared.cmp.Ordering.TheVariants.{Less}
use Rattle.std.specs.BTreeMap.{is_at}
use Rattle.std.specs.List.{AllByRecursion, find}
use Rattle.std.specs.Map.{keys_of}
use Rattle.std.proofs.lemmas.Map.Keys.{sorted_head, sorted_tail}
use Rattle.std.proofs.lemmas.Bool.Decides.{nat_tests}
use Rattle.tp_store.specs.declared.element.Element.{Element}
use Rattle.tp_store.specs.Elements.{Entry, element_at, is_group}
use Rattle.tp_store.specs.Indexes.{IsFirstFrom}
use Rattle.tp_store.specs.Indexing.{Places}
use Rattle.tp_store.specs.Shelves.{AreSorted, IsFoundBy, Grouping, IsIndexOf, stands}

-- this number is below each of these
abbrev pub IsBelow : ℕ → List ℕ → Type 0
IsBelow k xs = AllByRecursion (λ y. nat_cmp k y ≡ Less) xs

-- a number is at itself alone
pub at_number : (k i : ℕ) → is_at (nat_cmp k) i ≡ (k == i)
at_number k i = grind (arith, nat_tests)

at_same : (i k : ℕ) → is_at (nat_cmp i) k ≡ true → i ≡ k
at_same i k h = grind (arith, nat_tests)

not_at_later : (i k y : ℕ) → i ≡ k → nat_cmp k y ≡ Less → is_at (nat_cmp i) y ≡ false
not_at_later i k y e h = grind (arith, nat_tests)

less : (k y : ℕ) → nat_cmp k y ≡ Less → k < y
less k y h = grind (arith, nat_tests)

pub at_most : (m n : ℕ) → nat_le m n ≡ true → m ≤ n
at_most m n h = grind (arith, nat_tests)

within : (m n : ℕ) → m ≤ n → nat_le m n ≡ true
within m n h = grind (arith, nat_tests)

-- what is below all ids has no element
unkeyed : (i k : ℕ) (es : List Entry) → i ≡ k → IsBelow k (keys_of es) → element_at i es ≡ None
unkeyed i k [] e below = refl
unkeyed i k (x ∷ es) e below = rw (not_at_later i k x.0 e below.0) (unkeyed i k es e below.1)

-- what has an element is above what is below all ids
pub later : (i k : ℕ) (e : Element) (es : List Entry) → element_at i es ≡ Some e → IsBelow k (keys_of es) → k < i
later i k e [] found below = absurd cc
later i k e (x ∷ es) found below = go (λ h. later i k e es h below.1) (is_at (nat_cmp i) x.0) refl found
  where
    go : (element_at i es ≡ Some e → k < i) → (at : Bool) → is_at (nat_cmp i) x.0 ≡ at → cond at (Some x.1) (element_at i es) ≡ Some e → k < i
    go on true at h = let same = at_same i x.0 at in let low = less k x.0 below.0 in omega arith
    go on false at h = on h

as_pair : (x : Entry) (id : ℕ) (e : Element) → x.0 ≡ id → x.1 ≡ e → x ≡ (id, e)
as_pair (k, v) id e same that = cc

pub both : (a b : Bool) → (a && b) ≡ true → (a ≡ true) × (b ≡ true)
both true true h = (refl, refl)
both true false h = absurd cc
both false b h = absurd cc

-- whether an element stands in a group, from an id on, and the first that does
abbrev pub stands_from : Grouping → ℕ → ℕ → Entry → Bool
stands_from of group from e = nat_le from e.0 && is_group group (of e.0 e.1)

abbrev pub first_by : Grouping → ℕ → ℕ → List Entry → Option Entry
first_by of group from es = find (stands_from of group from) es

module _ (of : Grouping) (group : ℕ) where
  -- an id that doesn't stand in the group among all stands in it among the others neither
  among_others : (x : Entry) (es : List Entry) → IsBelow x.0 (keys_of es) → (i : ℕ) → stands of group i (element_at i (x ∷ es)) ≡ false → stands of group i (element_at i es) ≡ false
  among_others x es below i h = go (is_at (nat_cmp i) x.0) refl h
    where
      go : (at : Bool) → is_at (nat_cmp i) x.0 ≡ at → stands of group i (cond at (Some x.1) (element_at i es)) ≡ false → stands of group i (element_at i es) ≡ false
      go true at h = rw (unkeyed i x.0 es (at_same i x.0 at) below) refl
      go false at h = h

  -- the first of all stands as its own id does
  first_stands : (from : ℕ) (x : Entry) (es : List Entry) → stands_from of group from x ≡ true → (from ≤ x.0) × (stands of group x.0 (element_at x.0 (x ∷ es)) ≡ true)
  first_stands from x es h = let parts = both (nat_le from x.0) (is_group group (of x.0 x.1)) h in (at_most from x.0 parts.0, rw (at_number x.0 x.0, itself x.0) parts.1)
    where
      itself : (n : ℕ) → (n == n) ≡ true
      itself n = grind (arith, nat_tests)

  -- where none stands in the group, none is found
  pub find_none : (from : ℕ) (es : List Entry) → AreSorted es → ((i : ℕ) → from ≤ i → stands of group i (element_at i es) ≡ false) → first_by of group from es ≡ None
  find_none from [] sorted none = refl
  find_none from (x ∷ es) sorted none = go (find_none from es (sorted_tail nat_cmp x.0 (keys_of es) sorted)) (stands_from of group from x) refl
    where
      below : IsBelow x.0 (keys_of es)
      below = sorted_head nat_cmp x.0 (keys_of es) sorted

      go : (((i : ℕ) → from ≤ i → stands of group i (element_at i es) ≡ false) → first_by of group from es ≡ None) → (b : Bool) → stands_from of group from x ≡ b → (if b then Some x else first_by of group from es) ≡ None
      go on true h = let stood = first_stands from x es h in absurd (differ (none x.0 stood.0) stood.1)
        where
          differ : {b : Bool} → b ≡ false → b ≡ true → ⊥
          differ e f = absurd cc
      go on false h = on (λ i low. among_others x es below i (none i low))

  -- one that stands in the group is found first, where none before it does
  pub find_first : (from id : ℕ) (e : Element) (es : List Entry) → AreSorted es → element_at id es ≡ Some e → from ≤ id → is_group group (of id e) ≡ true → ((i : ℕ) → from ≤ i → i < id → stands of group i (element_at i es) ≡ false) → first_by of group from es ≡ Some (id, e)
  find_first from id e [] sorted found low in_it none = absurd cc
  find_first from id e (x ∷ es) sorted found low in_it none = go (λ h. find_first from id e es (sorted_tail nat_cmp x.0 (keys_of es) sorted) h low in_it) (is_at (nat_cmp id) x.0) refl found (stands_from of group from x) refl
    where
      below : IsBelow x.0 (keys_of es)
      below = sorted_head nat_cmp x.0 (keys_of es) sorted

      go : (element_at id es ≡ Some e → ((i : ℕ) → from ≤ i → i < id → stands of group i (element_at i es) ≡ false) → first_by of group from es ≡ Some (id, e)) → (at : Bool) → is_at (nat_cmp id) x.0 ≡ at → cond at (Some x.1) (element_at id es) ≡ Some e → (b : Bool) → stands_from of group from x ≡ b → (if b then Some x else first_by of group from es) ≡ Some (id, e)
      go on true at h true b = let same = at_same id x.0 at in let that : x.1 ≡ e = cc in ap Some (as_pair x id e (sym same) that)
      go on true at h false b = absurd (differ b (subst (λ (y : Entry). stands_from of group from y ≡ true) (sym (as_pair x id e (sym (at_same id x.0 at)) that)) (rw (within from id low) in_it)))
        where
          that : x.1 ≡ e
          that = cc

          differ : {b : Bool} → b ≡ false → b ≡ true → ⊥
          differ e f = absurd cc
      go on false at h true b = let stood = first_stands from x es b in absurd (differ (none x.0 stood.0 (later id x.0 e es h below)) stood.1)
        where
          differ : {b : Bool} → b ≡ false → b ≡ true → ⊥
          differ e f = absurd cc
      go on false at h false b = on h (λ i low high. among_others x es below i (none i low high))

  module _ (from : ℕ) (es : List Entry) (places : Places) (sorted : AreSorted es) (fits : (i : ℕ) → 2 ^ 64 ≤ i → element_at i es ≡ None) (is : IsIndexOf of es places) where
    none_by_index : IsFirstFrom places group from None → first_by of group from es ≡ None
    none_by_index none = find_none from es sorted (λ i low. go i low (nat_le (2 ^ 64) i) refl)
      where
        go : (i : ℕ) → from ≤ i → (b : Bool) → nat_le (2 ^ 64) i ≡ b → stands of group i (element_at i es) ≡ false
        go i low true h = rw (fits i (at_most _ _ h)) refl
        go i low false h = sym (is group i) ∙ none i low (smaller i h)
          where
            smaller : (i : ℕ) → nat_le (2 ^ 64) i ≡ false → i < 2 ^ 64
            smaller i h = grind (arith, nat_tests)

    -- what an index finds is what a walk over all elements finds
    pub found_is : (r : Option Entry) → IsFoundBy es places group from r → r ≡ first_by of group from es
    found_is None (inl none) = sym (none_by_index none)
    found_is None (inr (id, first, missing)) = absurd (differ (subst (λ x. stands of group id x ≡ true) missing (sym (is group id) ∙ first.1)))
      where
        differ : false ≡ true → ⊥
        differ e = absurd cc
    found_is (Some x) (first, there) = sym (find_first from x.0 x.1 es sorted there first.0 (subst (λ y. stands of group x.0 y ≡ true) there (sym (is group x.0) ∙ first.1)) (λ i low high. sym (is group i) ∙ first.2 i low high))

-- what a test of an option says of it
pub told_none : {A : Type 0} (x : Option A) (b : Bool) → is_some x ≡ not b → b ≡ is_none x
told_none None true h = refl
told_none None false h = absurd cc
told_none (Some a) true h = absurd cc
told_none (Some a) false h = refl
