-- What is listed of a group, from one of its elements to the next.
use Rattle.std.proofs.Common.{◌≡◌, ◌&&◌, ◌+◌, ◌-◌, ◌≤◌, ◌<◌, nat_le, ℕ, suc, Bool, true, false, if◌then◌else◌, Option, Some, None, List, [], ◌∷◌, ◌++◌, filter, take, refl, sym, ◌∙◌, ap, arith}
use Rattle.std.specs.Ordering.{nat_cmp}
use Rattle.std.specs.Option.{option_or}
use Rattle.std.specs.declared.cmp.Ordering.TheVariants.{Less}
use Rattle.std.specs.declared.ops.Bound.TheVariants.{Included, Unbounded}
use Rattle.std.specs.BTreeMap.Range.{entries_between, range_contains}
use Rattle.std.specs.Map.{keys_of}
use Rattle.std.proofs.Math.Seq.{take-nil}
use Rattle.std.proofs.lemmas.List.{append_assoc, append-nil}
use Rattle.std.proofs.lemmas.Map.Keys.{sorted_head, sorted_tail}
use Rattle.std.proofs.lemmas.Bool.Decides.{nat_tests}
use Rattle.tp_store.specs.declared.element.Element.{Element}
use Rattle.tp_store.specs.declared.group.Group.{Group}
use Rattle.tp_store.specs.declared.group.Group.TheVariants.{All}
use Rattle.tp_store.specs.Elements.{Entry}
use Rattle.tp_store.specs.Listing.{first_of, is_among, is_among_from}
use Rattle.tp_store.specs.Shelves.{AreSorted}
use Rattle.tp_store.proofs.Finding.{IsBelow, at_most, both}

below_is : (k y : ℕ) → nat_cmp k y ≡ Less → k < y
below_is k y h = grind (arith, nat_tests)

within : (m n : ℕ) → m ≤ n → nat_le m n ≡ true
within m n h = grind (arith, nat_tests)

past : (m n : ℕ) → n < m → nat_le m n ≡ false
past m n h = grind (arith, nat_tests)

-- ---- one after another

module _ (group : Group) where
  -- what is behind the first of all is listed from it on as from behind it
  behind : (from k : ℕ) (es : List Entry) → IsBelow k (keys_of es) → from ≤ k → filter (is_among_from group from) es ≡ filter (is_among_from group (k + 1)) es
  behind from k [] below low = refl
  behind from k (x ∷ es) below low =
      let after = below_is k x.0 below.0 in
      rw (within from x.0 (omega arith), within (k + 1) x.0 (omega arith)) (again (is_among group x.1) (behind from k es below.1 low))
    where
      again : (b : Bool) {xs ys : List Entry} → xs ≡ ys → (if b then x ∷ xs else xs) ≡ (if b then x ∷ ys else ys)
      again true e = ap (λ zs. x ∷ zs) e
      again false e = e

  found_behind : (from k id : ℕ) (e : Element) (es : List Entry) → IsBelow k (keys_of es) → first_of group from es ≡ Some (id, e) → k < id
  found_behind from k id e [] below found = absurd cc
  found_behind from k id e (x ∷ es) below found = go (found_behind from k id e es below.1) (is_among_from group from x) found
    where
      go : (first_of group from es ≡ Some (id, e) → k < id) → (b : Bool) → (if b then Some x else first_of group from es) ≡ Some (id, e) → k < id
      go on true h = let same : x.0 ≡ id = cc in let after = below_is k x.0 below.0 in omega arith
      go on false h = on h

  -- where none is found, none is listed
  pub none_listed : (from : ℕ) (es : List Entry) → first_of group from es ≡ None → filter (is_among_from group from) es ≡ []
  none_listed from [] none = refl
  none_listed from (x ∷ es) none = go (none_listed from es) (is_among_from group from x) none
    where
      go : (first_of group from es ≡ None → filter (is_among_from group from) es ≡ []) → (b : Bool) → (if b then Some x else first_of group from es) ≡ None → (if b then x ∷ filter (is_among_from group from) es else filter (is_among_from group from) es) ≡ []
      go on true h = absurd cc
      go on false h = on h

  -- what is listed begins with the first that is found, and goes on behind it
  pub first_listed : (from id : ℕ) (e : Element) (es : List Entry) → AreSorted es → first_of group from es ≡ Some (id, e) → filter (is_among_from group from) es ≡ (id, e) ∷ filter (is_among_from group (id + 1)) es
  first_listed from id e [] sorted found = absurd cc
  first_listed from id e (x ∷ es) sorted found = go (first_listed from id e es (sorted_tail nat_cmp x.0 (keys_of es) sorted)) (is_among_from group from x) refl found
    where
      below : IsBelow x.0 (keys_of es)
      below = sorted_head nat_cmp x.0 (keys_of es) sorted

      in_front : (n : ℕ) → x.0 < n → is_among_from group n x ≡ false
      in_front n h = rw (past n x.0 h) refl

      starts : is_among_from group from x ≡ true → from ≤ x.0
      starts h = at_most from x.0 (both _ _ h).0

      go : (first_of group from es ≡ Some (id, e) → filter (is_among_from group from) es ≡ (id, e) ∷ filter (is_among_from group (id + 1)) es) → (b : Bool) → is_among_from group from x ≡ b → (if b then Some x else first_of group from es) ≡ Some (id, e) → (if b then x ∷ filter (is_among_from group from) es else filter (is_among_from group from) es) ≡ (id, e) ∷ filter (is_among_from group (id + 1)) (x ∷ es)
      go on false b h = rw (in_front (id + 1) (let after = found_behind from x.0 id e es below h in omega arith)) (on h)
      go on true b h =
          let that : x ≡ (id, e) = cc in
          let at : x.0 ≡ id = cc in
          rw (in_front (id + 1) (omega arith)) (ap (λ y. y ∷ filter (is_among_from group from) es) that ∙ ap (λ zs. (id, e) ∷ zs) (behind from x.0 es below (starts b) ∙ ap (λ k. filter (is_among_from group (k + 1)) es) at))

-- none is in the list, all are to come
pub listed_none : (list xs : List Entry) (most : ℕ) → list ≡ [] → list ++ take (most - 0) xs ≡ take most xs
listed_none list xs most is = rw (is, all) refl
  where
    all : most - 0 ≡ most
    all = omega arith

-- one more in the list, one less to come
pub listed_step : (list xs ys : List Entry) (x : Entry) (step most : ℕ) → step < most → xs ≡ x ∷ ys → (list ++ x ∷ []) ++ take (most - (step + 1)) ys ≡ list ++ take (most - step) xs
listed_step list xs ys x step most low is = append_assoc list (x ∷ []) (take (most - (step + 1)) ys) ∙ ap (λ zs. list ++ zs) (sym (rw (is, left) refl))
  where
    left : most - step ≡ suc (most - (step + 1))
    left = omega arith

-- none is left to come
pub none_left : (list : List Entry) (n : ℕ) (xs : List Entry) → xs ≡ [] → list ++ take n xs ≡ list
none_left list n xs is = rw is (ap (λ zs. list ++ zs) (take-nil n) ∙ append-nil list)

pub list_full : (list : List Entry) (n : ℕ) (xs : List Entry) → n ≡ 0 → list ++ take n xs ≡ list
list_full list n xs is = rw is (append-nil list)

-- ---- the first of all

module _ (from : ℕ) where
  same : (y : Entry) → range_contains nat_cmp (Included from) Unbounded y.0 ≡ is_among_from All from y
  same y = at y.0
    where
      at : (k : ℕ) → range_contains nat_cmp (Included from) Unbounded k ≡ (nat_le from k && true)
      at k = grind (arith, nat_tests)

  -- the first from an id on is the first of the range
  pub range_first : (es : List Entry) (x : Entry) (t : List Entry) → entries_between nat_cmp (Included from) Unbounded es ≡ x ∷ t → first_of All from es ≡ Some x
  range_first [] x t h = absurd cc
  range_first (y ∷ es) x t h = go (range_first es x t) (is_among_from All from y) (rw (same y) at h)
    where
      go : (entries_between nat_cmp (Included from) Unbounded es ≡ x ∷ t → first_of All from es ≡ Some x) → (b : Bool) → (if b then y ∷ entries_between nat_cmp (Included from) Unbounded es else entries_between nat_cmp (Included from) Unbounded es) ≡ x ∷ t → (if b then Some y else first_of All from es) ≡ Some x
      go on true h = let first : y ≡ x = cc in ap Some first
      go on false h = on h

  pub range_none : (es : List Entry) → entries_between nat_cmp (Included from) Unbounded es ≡ [] → first_of All from es ≡ None
  range_none [] h = refl
  range_none (y ∷ es) h = go (range_none es) (is_among_from All from y) (rw (same y) at h)
    where
      go : (entries_between nat_cmp (Included from) Unbounded es ≡ [] → first_of All from es ≡ None) → (b : Bool) → (if b then y ∷ entries_between nat_cmp (Included from) Unbounded es else entries_between nat_cmp (Included from) Unbounded es) ≡ [] → (if b then Some y else first_of All from es) ≡ None
      go on true h = absurd cc
      go on false h = on h

-- ---- the first or the second of two

pub as_first : (a b x : Option Entry) (e : Entry) → a ≡ Some e → x ≡ Some e → x ≡ option_or a b
as_first a b x e is found = rw is found

pub as_second : (a b x : Option Entry) → a ≡ None → x ≡ b → x ≡ option_or a b
as_second a b x is found = rw is found
