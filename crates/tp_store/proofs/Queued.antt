-- The places of queues that are sets, one queue by one.
use Rattle.std.proofs.Common.{◌≡◌, ◌==◌, ◌&&◌, ◌||◌, ◌<◌, ◌≤◌, ◌+◌, nat_le, ℕ, zero, suc, Bool, true, false, not, cond, Option, Some, None, List, [], ◌∷◌, ◌++◌, length, set, refl, sym, ◌∙◌, ap, subst, arith}
use Rattle.std.specs.Ordering.{nat_cmp}
use Rattle.std.specs.BTreeMap.{is_at}
use Rattle.std.specs.BTreeMap.Range.{range_contains}
use Rattle.std.specs.BTreeSet.{BTreeSet, keys_between}
use Rattle.std.specs.declared.ops.Bound.TheVariants.{Included, Unbounded}
use Rattle.std.specs.List.{list_any, slice_get}
use Rattle.std.proofs.lemmas.List.Folds.{list_any-append}
use Rattle.std.proofs.lemmas.Option.{slice_get_past}
use Rattle.std.proofs.lemmas.Bool.Decides.{nat_tests}
use Rattle.tp_store.specs.Indexes.{has, is_place, place_cmp, IsFirstFrom}
use Rattle.std.specs.declared.cmp.Ordering.TheVariants.{Less}
use Rattle.std.specs.List.Sorted.{IsStrictlySortedBy}
use Rattle.std.proofs.lemmas.List.Kept.{IsStrictlySortedBy-filter}
use Rattle.std.proofs.lemmas.Map.Views.{any-filter_same}
use Rattle.std.proofs.lemmas.Map.Keys.{sorted_head, sorted_tail}
use Rattle.tp_store.specs.Queues.{AreIdsFrom, IsLeastFrom, places_from, places_of}
use Rattle.tp_store.proofs.Finding.{IsBelow, at_number}
use Rattle.tp_store.proofs.Groupings.{same_number}

-- whether a set, if there is one, has an id
abbrev pub in_set : Option (BTreeSet ℕ) → ℕ → Bool
in_set None i = false
in_set (Some q) i = list_any (is_at (nat_cmp i)) q.keys

here : (g i k : ℕ) → is_at (place_cmp (g, i)) (g, k) ≡ is_at (nat_cmp i) k
here g i k = grind (arith, nat_tests)

apart : (g h i k : ℕ) → (h ≡ g → ⊥) → is_at (place_cmp (g, i)) (h, k) ≡ false
apart g h i k ne = grind (arith, nat_tests)

own : (g i : ℕ) (ks : List ℕ) → has (places_of g ks) g i ≡ list_any (is_at (nat_cmp i)) ks
own g i [] = refl
own g i (k ∷ ks) = rw (here g i k, own g i ks) refl

others : (g h i : ℕ) (ks : List ℕ) → (h ≡ g → ⊥) → has (places_of h ks) g i ≡ false
others g h i [] ne = refl
others g h i (k ∷ ks) ne = rw (apart g h i k ne) (others g h i ks ne)

or_none : (a b c : Bool) → a ≡ c → b ≡ false → (a || b) ≡ c
or_none true b c e n = e
or_none false b c e n = n ∙ e

none_or : (a b c : Bool) → a ≡ false → b ≡ c → (a || b) ≡ c
none_or true b c n e = absurd cc
none_or false b c n e = e

below : (n g i : ℕ) (sets : List (BTreeSet ℕ)) → g < n → has (places_from n sets) g i ≡ false
below n g i [] low = refl
below n g i (q ∷ qs) low = list_any-append _ (places_of n q.keys) (places_from (n + 1) qs) ∙ none_or _ _ _ (others g n i q.keys (λ e. omega arith)) (below (n + 1) g i qs (omega arith))

-- a queue has what its set has
at_from : (n g m i : ℕ) (sets : List (BTreeSet ℕ)) → m ≡ n + g → has (places_from n sets) m i ≡ in_set (slice_get sets g) i
at_from n g m i [] e = refl
at_from n zero m i (q ∷ qs) e = list_any-append _ (places_of n q.keys) (places_from (n + 1) qs) ∙ or_none _ _ _ (subst (λ x. has (places_of x q.keys) m i ≡ list_any (is_at (nat_cmp i)) q.keys) same (own m i q.keys)) (below (n + 1) m i qs (omega arith))
  where
    same : m ≡ n
    same = omega arith
at_from n (suc g) m i (q ∷ qs) e = list_any-append _ (places_of n q.keys) (places_from (n + 1) qs) ∙ none_or _ _ _ (others m n i q.keys (λ x. omega arith)) (at_from (n + 1) g m i qs (omega arith))

pub at : (g i : ℕ) (sets : List (BTreeSet ℕ)) → has (places_from 0 sets) g i ≡ in_set (slice_get sets g) i
at g i sets = at_from 0 g g i sets (omega arith)

-- an empty set more has no place
pub one_more : (n : ℕ) (sets : List (BTreeSet ℕ)) (e : BTreeSet ℕ) → e.keys ≡ [] → places_from n (sets ++ e ∷ []) ≡ places_from n sets
one_more n [] e none = rw none refl
one_more n (q ∷ qs) e none = ap (λ xs. places_of n q.keys ++ xs) (one_more (n + 1) qs e none)

got_same : {X : Type 0} (xs : List X) (j : ℕ) (y : X) → j < length xs → slice_get (set xs j y) j ≡ Some y
got_same [] j y low = absurd (omega arith)
got_same (x ∷ xs) zero y low = refl
got_same (x ∷ xs) (suc j) y low = got_same xs j y (omega arith)

got_other : {X : Type 0} (xs : List X) (j s : ℕ) (y : X) → (j ≡ s → ⊥) → slice_get (set xs j y) s ≡ slice_get xs s
got_other [] j s y ne = refl
got_other (x ∷ xs) zero zero y ne = absurd (ne refl)
got_other (x ∷ xs) zero (suc s) y ne = refl
got_other (x ∷ xs) (suc j) zero y ne = refl
got_other (x ∷ xs) (suc j) (suc s) y ne = got_other xs j s y (λ e. ne (ap suc e))

-- a queue of which there is no set yet has no place
pub unreached : (g i : ℕ) (sets : List (BTreeSet ℕ)) → length sets ≤ g → has (places_from 0 sets) g i ≡ false
unreached g i sets past = at g i sets ∙ ap (λ x. in_set x i) (slice_get_past sets g past)

pub reached : (g i : ℕ) (sets : List (BTreeSet ℕ)) (q : BTreeSet ℕ) → slice_get sets g ≡ Some q → has (places_from 0 sets) g i ≡ list_any (is_at (nat_cmp i)) q.keys
reached g i sets q e = at g i sets ∙ ap (λ x. in_set x i) e

apart_numbers : (m n : ℕ) → (m == n) ≡ false → m ≡ n → ⊥
apart_numbers m n h e = grind (arith, nat_tests)

module _ (queue id : ℕ) (sets : List (BTreeSet ℕ)) where
  kept_off : (b : Bool) → b ≡ (b && not false)
  kept_off true = refl
  kept_off false = refl

  kept_on : (b : Bool) → b ≡ (b || false)
  kept_on true = refl
  kept_on false = refl

  -- nothing is taken off a queue of which there is no set
  pub untouched : (g i : ℕ) → length sets ≤ queue → has (places_from 0 sets) g i ≡ (has (places_from 0 sets) g i && not (is_place queue id g i))
  untouched g i past = go (queue == g) refl
    where
      go : (b : Bool) → (queue == g) ≡ b → has (places_from 0 sets) g i ≡ (has (places_from 0 sets) g i && not (b && id == i))
      go true e = rw (subst (λ x. has (places_from 0 sets) x i ≡ false) (same_number queue g e) (unreached queue i sets past)) refl
      go false e = kept_off _

  module _ (q r : BTreeSet ℕ) (there : slice_get sets queue ≡ Some q) (low : queue < length sets) where
    -- a queue whose set has changed so, and the others
    changed : (g i : ℕ) → (queue == g) ≡ false → has (places_from 0 (set sets queue r)) g i ≡ has (places_from 0 sets) g i
    changed g i e = at g i (set sets queue r) ∙ (ap (λ x. in_set x i) (got_other sets queue g r (apart_numbers queue g e)) ∙ sym (at g i sets))

    same_queue : (g i : ℕ) → (queue == g) ≡ true → has (places_from 0 (set sets queue r)) g i ≡ list_any (is_at (nat_cmp i)) r.keys
    same_queue g i e = subst (λ x. has (places_from 0 (set sets queue r)) x i ≡ list_any (is_at (nat_cmp i)) r.keys) (same_number queue g e) (reached queue i (set sets queue r) r (got_same sets queue r low))

    was : (g i : ℕ) → (queue == g) ≡ true → has (places_from 0 sets) g i ≡ list_any (is_at (nat_cmp i)) q.keys
    was g i e = subst (λ x. has (places_from 0 sets) x i ≡ list_any (is_at (nat_cmp i)) q.keys) (same_number queue g e) (reached queue i sets q there)

    pub taken : ((k : ℕ) → list_any (is_at (nat_cmp k)) r.keys ≡ cond (is_at (nat_cmp id) k) false (list_any (is_at (nat_cmp k)) q.keys)) → (g i : ℕ) → has (places_from 0 (set sets queue r)) g i ≡ (has (places_from 0 sets) g i && not (is_place queue id g i))
    taken updates g i = go (queue == g) refl
      where
        off : (b a x : Bool) → a ≡ b → cond a false x ≡ (x && not b)
        off true a true e = rw e refl
        off true a false e = rw e refl
        off false a true e = rw e refl
        off false a false e = rw e refl

        go : (b : Bool) → (queue == g) ≡ b → has (places_from 0 (set sets queue r)) g i ≡ (has (places_from 0 sets) g i && not (b && id == i))
        go true e = same_queue g i e ∙ (updates i ∙ (off (id == i) _ _ (at_number id i) ∙ ap (λ x. x && not (id == i)) (sym (was g i e))))
        go false e = changed g i e ∙ kept_off _

    pub put : ((k : ℕ) → list_any (is_at (nat_cmp k)) r.keys ≡ cond (is_at (nat_cmp id) k) true (list_any (is_at (nat_cmp k)) q.keys)) → (g i : ℕ) → has (places_from 0 (set sets queue r)) g i ≡ (has (places_from 0 sets) g i || is_place queue id g i)
    put updates g i = go (queue == g) refl
      where
        on : (b a x : Bool) → a ≡ b → cond a true x ≡ (x || b)
        on true a true e = rw e refl
        on true a false e = rw e refl
        on false a true e = rw e refl
        on false a false e = rw e refl

        go : (b : Bool) → (queue == g) ≡ b → has (places_from 0 (set sets queue r)) g i ≡ (has (places_from 0 sets) g i || (b && id == i))
        go true e = same_queue g i e ∙ (updates i ∙ (on (id == i) _ _ (at_number id i) ∙ ap (λ x. x || (id == i)) (sym (was g i e))))
        go false e = changed g i e ∙ kept_on _

-- a set that has the same keys has the same places
pub rewritten : (n j : ℕ) (sets : List (BTreeSet ℕ)) (q r : BTreeSet ℕ) → slice_get sets j ≡ Some q → r.keys ≡ q.keys → places_from n (set sets j r) ≡ places_from n sets
rewritten n j [] q r there same = refl
rewritten n zero (x ∷ xs) q r there same = let that : x ≡ q = cc in ap (λ ks. places_of n ks ++ places_from (n + 1) xs) (same ∙ ap (λ s. s.keys) (sym that))
rewritten n (suc j) (x ∷ xs) q r there same = ap (λ ps. places_of n x.keys ++ ps) (rewritten (n + 1) j xs q r there same)

-- ---- the first of a queue

module _ (queue from : ℕ) (sets : List (BTreeSet ℕ)) where
  pub no_queue : length sets ≤ queue → IsFirstFrom (places_from 0 sets) queue from None
  no_queue past = λ i low high. unreached queue i sets past

  -- the least id of a queue's set is the first that stands there
  pub least_waits : (q : BTreeSet ℕ) → slice_get sets queue ≡ Some q → (x : Option ℕ) → IsLeastFrom q.keys from x → IsFirstFrom (places_from 0 sets) queue from x
  least_waits q there None is = λ i low high. reached queue i sets q there ∙ is i low
  least_waits q there (Some id) is = (is.0, reached queue id sets q there ∙ is.1, λ i low high. reached queue i sets q there ∙ is.2 i low high)

-- ---- the ids of a queue, one after another

none_at : (i k : ℕ) (ks : List ℕ) → IsBelow k ks → i ≤ k → list_any (is_at (nat_cmp i)) ks ≡ false
none_at i k [] below low = refl
none_at i k (y ∷ ks) below low = none_or _ _ _ (not_at i k y low below.0) (none_at i k ks below.1 low)
  where
    not_at : (i k y : ℕ) → i ≤ k → nat_cmp k y ≡ Less → is_at (nat_cmp i) y ≡ false
    not_at i k y low less = grind (arith, nat_tests)

itself : (i : ℕ) → is_at (nat_cmp i) i ≡ true
itself i = grind (arith, nat_tests)

elsewhere : (i k : ℕ) → i < k → is_at (nat_cmp i) k ≡ false
elsewhere i k low = grind (arith, nat_tests)

behind : (i k : ℕ) → k < i → is_at (nat_cmp i) k ≡ false
behind i k low = grind (arith, nat_tests)

is_from : (m n : ℕ) → m ≤ n → nat_le m n ≡ true
is_from m n h = grind (arith, nat_tests)

not_from : (m n : ℕ) → n < m → nat_le m n ≡ false
not_from m n h = grind (arith, nat_tests)

-- those of a set from an id on
pub ids_of : (queue from : ℕ) (sets : List (BTreeSet ℕ)) (q : BTreeSet ℕ) (ids : List ℕ) → slice_get sets queue ≡ Some q → IsStrictlySortedBy nat_cmp q.keys → ids ≡ keys_between nat_cmp (Included from) Unbounded q → AreIdsFrom (places_from 0 sets) queue from ids
ids_of queue from sets q ids there sorted is = rw is (IsStrictlySortedBy-filter nat_cmp _ q.keys sorted, λ i. (any-filter_same (is_at (nat_cmp i)) _ (nat_le from i) (same i) q.keys ∙ ap (λ b. nat_le from i && b) (sym (reached queue i sets q there))))
  where
    same : (i k : ℕ) → is_at (nat_cmp i) k ≡ true → range_contains nat_cmp (Included from) Unbounded k ≡ nat_le from i
    same i k h = grind (arith, nat_tests)

module _ (places : List (ℕ × ℕ)) (queue next : ℕ) where
  and_true : (a b : Bool) → true ≡ (a && b) → (a ≡ true) × (b ≡ true)
  and_true true true h = (refl, refl)
  and_true true false h = absurd cc
  and_true false b h = absurd cc

  pub none_next : AreIdsFrom places queue next [] → IsFirstFrom places queue next None
  none_next are = λ i low high. sym (are.1 i ∙ rw (is_from next i low) refl)

  module _ (id : ℕ) (ids : List ℕ) (are : AreIdsFrom places queue next (id ∷ ids)) where
    there : (nat_le next id ≡ true) × (has places queue id ≡ true)
    there = and_true _ _ (sym (rw (itself id) refl) ∙ are.1 id)

    low_enough : (m n : ℕ) → nat_le m n ≡ true → m ≤ n
    low_enough m n h = grind (arith, nat_tests)

    -- the first is the least
    pub first_next : IsFirstFrom places queue next (Some id)
    first_next = (low_enough next id there.0, there.1, λ i low high. (sym (rw (is_from next i low) at (are.1 i)) ∙ none_or _ _ _ (elsewhere i id high) (none_at i id ids (sorted_head nat_cmp id ids are.0) (omega arith))))

    -- and the others are those behind it
    pub others_next : AreIdsFrom places queue (id + 1) ids
    others_next = (sorted_tail nat_cmp id ids are.0, λ i. go i (nat_le (id + 1) i) refl)
      where
        go : (i : ℕ) (b : Bool) → nat_le (id + 1) i ≡ b → list_any (is_at (nat_cmp i)) ids ≡ (b && has places queue i)
        go i true h = let after = low_enough (id + 1) i h in let before = low_enough next id there.0 in rw (behind i id (omega arith), is_from next i (omega arith)) at (are.1 i)
        go i false h = none_at i id ids (sorted_head nat_cmp id ids are.0) (at_most i h)
          where
            at_most : (i : ℕ) → nat_le (id + 1) i ≡ false → i ≤ id
            at_most i h = grind (arith, nat_tests)
