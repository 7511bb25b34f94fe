-- The places of an index, one by one.
use Rattle.std.proofs.Common.{◌≡◌, ◌≢◌, ◌&&◌, ◌||◌, ◌<◌, ◌≤◌, ◌+◌, ℕ, Bool, true, false, not, cond, Some, None, List, [], ◌∷◌, refl, sym, ◌∙◌, ap, subst, arith}
use Rattle.std.specs.BTreeMap.{is_at}
use Rattle.std.specs.BTreeMap.Range.{IsInRange, IsLeBy, range_contains}
use Rattle.std.specs.BTreeSet.{BTreeSet, IsKeyRangeOf, keys_between}
use Rattle.std.specs.List.{AllByRecursion, list_any}
use Rattle.std.specs.List.Sorted.{IsStrictlySortedBy}
use Rattle.std.specs.declared.cmp.Ordering.TheVariants.{Less}
use Rattle.std.specs.declared.ops.Bound.TheVariants.{Included, Unbounded}
use Rattle.std.proofs.lemmas.Bool.Decides.{nat_tests}
use Rattle.std.proofs.lemmas.List.Kept.{IsStrictlySortedBy-filter}
use Rattle.std.proofs.lemmas.Map.Keys.{sorted_head, sorted_tail}
use Rattle.std.proofs.lemmas.Map.Views.{any-filter_same}
use Rattle.tp_store.specs.Indexes.{has, is_place, place_cmp, IsFirstFrom}
use Rattle.tp_store.specs.Queues.{ArePlacesFrom, is_place_from}

-- a place is at itself alone
pub place_at : (group id g i : ℕ) → is_at (place_cmp (group, id)) (g, i) ≡ is_place group id g i
place_at group id g i = grind (arith, nat_tests)

put_there : (a b x : Bool) → a ≡ b → cond a true x ≡ (x || b)
put_there true b true e = refl
put_there true b false e = e
put_there false b true e = refl
put_there false b false e = e

taken_off : (a b x : Bool) → a ≡ b → cond a false x ≡ (x && not b)
taken_off true b true e = ap not e
taken_off true b false e = refl
taken_off false b true e = ap not e
taken_off false b false e = refl

-- a place more
pub added : (group id g i : ℕ) (old new : List (ℕ × ℕ))
    → has new g i ≡ cond (is_at (place_cmp (group, id)) (g, i)) true (has old g i)
    → has new g i ≡ (has old g i || is_place group id g i)
added group id g i old new h = h ∙ put_there _ _ _ (place_at group id g i)

-- a place less
pub removed : (group id g i : ℕ) (old new : List (ℕ × ℕ))
    → has new g i ≡ cond (is_at (place_cmp (group, id)) (g, i)) false (has old g i)
    → has new g i ≡ (has old g i && not (is_place group id g i))
removed group id g i old new h = h ∙ taken_off _ _ _ (place_at group id g i)

-- ---- the first of a range of places

-- the places from an id of a group on, those of later groups too
abbrev In : ℕ → ℕ → ℕ × ℕ → Type 0
In group from q = IsInRange place_cmp (Included (group, from)) Unbounded q

in_group : (group from i : ℕ) → from ≤ i → In group from (group, i)
in_group group from i low = (grind (arith, nat_tests), tt)

of_group : (group from g i : ℕ) → In group from (g, i) → g ≡ group → from ≤ i
of_group group from g i r e = grind (arith, nat_tests)

no_earlier : (group from g i : ℕ) → In group from (g, i) → group ≤ g
no_earlier group from g i r = grind (arith, nat_tests)

no_later : (group g i j : ℕ) → g ≡ group → IsLeBy place_cmp (g, i) (group, j) → i ≤ j
no_later group g i j e le = grind (arith, nat_tests)

no_later_group : (group g i j : ℕ) → IsLeBy place_cmp (g, i) (group, j) → g ≤ group
no_later_group group g i j le = grind (arith, nat_tests)

unless_had : (b : Bool) → (b ≡ true → ⊥) → b ≡ false
unless_had true h = absurd (h refl)
unless_had false h = refl

module _ (set : BTreeSet (ℕ × ℕ)) (group from : ℕ) (r : List (ℕ × ℕ)) (is : IsKeyRangeOf place_cmp (Included (group, from)) Unbounded set r) where
  -- the first place of the range, where it is one of the group
  pub first_found : (q : ℕ × ℕ) (t : List (ℕ × ℕ)) → r ≡ q ∷ t → q.0 ≡ group → IsFirstFrom set.keys group from (Some q.1)
  first_found q t e here =
      let member = rw e at is.1 in
      let least = rw e at is.2 in
      (of_group group from q.0 q.1 member.0 here, subst (λ g. has set.keys g q.1 ≡ true) here member.1, λ i low high. unless_had (has set.keys group i) (λ h. below i high (least (group, i) (in_group group from i low) h)))
    where
      below : (i : ℕ) → i < q.1 → IsLeBy place_cmp q (group, i) → ⊥
      below i high le = let after = no_later group q.0 q.1 i here le in omega arith

  -- and where it is none, the group has none
  pub other_found : (q : ℕ × ℕ) (t : List (ℕ × ℕ)) → r ≡ q ∷ t → q.0 ≢ group → IsFirstFrom set.keys group from None
  other_found q t e apart =
      let member = rw e at is.1 in
      let least = rw e at is.2 in
      λ i low high. unless_had (has set.keys group i) (λ h. later i member.0 (least (group, i) (in_group group from i low) h))
    where
      later : (i : ℕ) → In group from q → IsLeBy place_cmp q (group, i) → ⊥
      later i member le = let low = no_earlier group from q.0 q.1 member in let high = no_later_group group q.0 q.1 i le in apart (omega arith)

  pub none_found : r ≡ [] → IsFirstFrom set.keys group from None
  none_found e = λ i low high. is.5 e (group, i) (in_group group from i low)

-- ---- the places from one on, one after another

abbrev IsBelowAll : ℕ × ℕ → List (ℕ × ℕ) → Type 0
IsBelowAll p ps = AllByRecursion (λ q. place_cmp p q ≡ Less) ps

neither : (a b : Bool) → a ≡ false → b ≡ false → (a || b) ≡ false
neither true b e f = absurd cc
neither false b e f = f

-- what is not above a place is none of those above it
none_at : (g i h j : ℕ) (ps : List (ℕ × ℕ)) → IsBelowAll (h, j) ps → is_place_from h (j + 1) g i ≡ false → list_any (is_at (place_cmp (g, i))) ps ≡ false
none_at g i h j [] below low = refl
none_at g i h j ((k, l) ∷ ps) below low = neither _ _ (not_at g i h j k l low below.0) (none_at g i h j ps below.1 low)
  where
    not_at : (g i h j k l : ℕ) → is_place_from h (j + 1) g i ≡ false → place_cmp (h, j) (k, l) ≡ Less → is_at (place_cmp (g, i)) (k, l) ≡ false
    not_at g i h j k l low less = grind (arith, nat_tests)

-- those of a set from a place on
pub places_from_set : (set : BTreeSet (ℕ × ℕ)) (group from : ℕ) (ps : List (ℕ × ℕ)) → IsStrictlySortedBy place_cmp set.keys → ps ≡ keys_between place_cmp (Included (group, from)) Unbounded set → ArePlacesFrom set.keys group from ps
places_from_set set group from ps sorted is = rw is (IsStrictlySortedBy-filter place_cmp _ set.keys sorted, λ g i. any-filter_same (is_at (place_cmp (g, i))) _ (is_place_from group from g i) (λ q. same g i q.0 q.1) set.keys)
  where
    same : (g i h j : ℕ) → is_at (place_cmp (g, i)) (h, j) ≡ true → range_contains place_cmp (Included (group, from)) Unbounded (h, j) ≡ is_place_from group from g i
    same g i h j e = grind (arith, nat_tests)

module _ (places : List (ℕ × ℕ)) (group next : ℕ) where
  from_here : (group next i : ℕ) → next ≤ i → is_place_from group next group i ≡ true
  from_here group next i low = grind (arith, nat_tests)

  had_not : (a b c : Bool) → c ≡ (a && b) → a ≡ true → c ≡ false → b ≡ false
  had_not true b c e t f = sym e ∙ f
  had_not false b c e t f = absurd cc

  pub no_place : ArePlacesFrom places group next [] → IsFirstFrom places group next None
  no_place are = λ i low high. had_not _ _ _ (are.1 group i) (from_here group next i low) refl

  module _ (g id : ℕ) (ps : List (ℕ × ℕ)) (are : ArePlacesFrom places group next ((g, id) ∷ ps)) where
    below : IsBelowAll (g, id) ps
    below = sorted_head place_cmp (g, id) ps are.0

    at_place : (g i : ℕ) → is_at (place_cmp (g, i)) (g, i) ≡ true
    at_place g i = grind (arith, nat_tests)

    both_true : (a b : Bool) → true ≡ (a && b) → (a ≡ true) × (b ≡ true)
    both_true true true e = (refl, refl)
    both_true true false e = absurd cc
    both_true false b e = absurd cc

    there : (is_place_from group next g id ≡ true) × (has places g id ≡ true)
    there = both_true _ _ (sym (rw (at_place g id) refl) ∙ are.1 g id)

    -- the first one is of a later group: the group has none
    pub later_place : g ≢ group → IsFirstFrom places group next None
    later_place apart = λ i low high. had_not _ _ _ (are.1 group i) (from_here group next i low) (neither _ _ (elsewhere i) (none_at group i g id ps below (not_above i)))
      where
        after : (group next g id : ℕ) → g ≢ group → is_place_from group next g id ≡ true → group < g
        after group next g id apart h = grind (arith, nat_tests)

        elsewhere : (i : ℕ) → is_at (place_cmp (group, i)) (g, id) ≡ false
        elsewhere i = go group g i id (after group next g id apart there.0)
          where
            go : (group g i id : ℕ) → group < g → is_at (place_cmp (group, i)) (g, id) ≡ false
            go group g i id low = grind (arith, nat_tests)

        not_above : (i : ℕ) → is_place_from g (id + 1) group i ≡ false
        not_above i = go group g i id (after group next g id apart there.0)
          where
            go : (group g i id : ℕ) → group < g → is_place_from g (id + 1) group i ≡ false
            go group g i id low = grind (arith, nat_tests)

    module _ (here : g ≡ group) where
      low_enough : (group next g id : ℕ) → g ≡ group → is_place_from group next g id ≡ true → next ≤ id
      low_enough group next g id e h = grind (arith, nat_tests)

      -- the first one is of the group: it is the least
      pub first_place : IsFirstFrom places group next (Some id)
      first_place = (low_enough group next g id here there.0, subst (λ h. has places h id ≡ true) here there.1, λ i low high. had_not _ _ _ (are.1 group i) (from_here group next i low) (neither _ _ (earlier group g i id here high) (none_at group i g id ps below (under group g i id here high))))
        where
          earlier : (group g i id : ℕ) → g ≡ group → i < id → is_at (place_cmp (group, i)) (g, id) ≡ false
          earlier group g i id e low = grind (arith, nat_tests)

          under : (group g i id : ℕ) → g ≡ group → i < id → is_place_from g (id + 1) group i ≡ false
          under group g i id e low = grind (arith, nat_tests)

      -- and the others are those behind it
      pub other_places : ArePlacesFrom places group (id + 1) ps
      other_places = (sorted_tail place_cmp (g, id) ps are.0, λ h i. go h i (is_place_from group (id + 1) h i) refl)
        where
          go : (h i : ℕ) (b : Bool) → is_place_from group (id + 1) h i ≡ b → list_any (is_at (place_cmp (h, i))) ps ≡ (b && has places h i)
          go h i true e = rw (past group g h i id here e, wider group next h i id (low_enough group next g id here there.0) e) at (are.1 h i)
            where
              past : (group g h i id : ℕ) → g ≡ group → is_place_from group (id + 1) h i ≡ true → is_at (place_cmp (h, i)) (g, id) ≡ false
              past group g h i id e f = grind (arith, nat_tests)

              wider : (group next h i id : ℕ) → next ≤ id → is_place_from group (id + 1) h i ≡ true → is_place_from group next h i ≡ true
              wider group next h i id low f = grind (arith, nat_tests)
          go h i false e = none_at h i g id ps below (subst (λ k. is_place_from k (id + 1) h i ≡ false) (sym here) e)
