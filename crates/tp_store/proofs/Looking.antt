-- What look-ups say of elements that are put and taken away, and of the first of a group.
use Rattle.std.proofs.Common.{◌≡◌, ◌==◌, ◌&&◌, ◌≤◌, ◌<◌, nat_le, ℕ, Bool, true, false, cond, if◌then◌else◌, Option, Some, None, List, [], ◌∷◌, refl, sym, ap, subst, arith}
use Rattle.std.specs.Ordering.{nat_cmp}
use Rattle.std.specs.declared.cmp.Ordering.{Ordering}
use Rattle.std.specs.declared.cmp.Ordering.TheVariants.{Less, Equal, Greater}
use Rattle.std.specs.BTreeMap.{is_at}
use Rattle.std.specs.List.Sorted.{IsStrictlySortedBy}
use Rattle.std.specs.Map.{keys_of}
use Rattle.std.proofs.lemmas.Map.Keys.{sorted_head, sorted_tail}
use Rattle.std.proofs.lemmas.Bool.Decides.{nat_tests}
use Rattle.tp_store.specs.declared.element.Element.{Element}
use Rattle.tp_store.specs.Elements.{Entry, element_at, first_in, is_group, is_in_from, put, without}
use Rattle.tp_store.specs.Shelves.{AreSorted}
use Rattle.tp_store.proofs.Finding.{IsBelow}

-- the first one and those after it, in order
pub sorted_cons : (x : Entry) (es : List Entry) → IsBelow x.0 (keys_of es) → AreSorted es → AreSorted (x ∷ es)
unfolding IsStrictlySortedBy
sorted_cons x es below sorted = (below, sorted)

pub sorted_none : AreSorted []
unfolding IsStrictlySortedBy
sorted_none = tt

-- ---- an element is put

at_flipped : (q k : ℕ) → is_at (nat_cmp q) k ≡ (k == q)
at_flipped q k = grind (arith, nat_tests)

pub put_looks : (k : ℕ) (e : Element) (es : List Entry) (q : ℕ) → element_at q (put k e es) ≡ (if k == q then Some e else element_at q es)
put_looks k e [] q = ap (λ b. cond b (Some e) None) (at_flipped q k)
put_looks k e (x ∷ es) q = go (put_looks k e es q) (nat_cmp k x.0) refl
  where
    same : (k x q : ℕ) → nat_cmp k x ≡ Equal → is_at (nat_cmp q) x ≡ (k == q)
    same k x q h = grind (arith, nat_tests)

    apart : (k x q : ℕ) → nat_cmp k x ≡ Greater → is_at (nat_cmp q) x ≡ true → (k == q) ≡ false
    apart k x q h at = grind (arith, nat_tests)

    twice : (b : Bool) (x y z : Option Element) → cond b x z ≡ cond b x (cond b y z)
    twice true x y z = refl
    twice false x y z = refl

    past : (at here : Bool) (x y z r : Option Element) → (at ≡ true → here ≡ false) → r ≡ cond here y z → cond at x r ≡ cond here y (cond at x z)
    past true here x y z r apart on = rw (apart refl) refl
    past false here x y z r apart on = on

    go : element_at q (put k e es) ≡ (if k == q then Some e else element_at q es) → (o : Ordering) → nat_cmp k x.0 ≡ o → element_at q (put k e (x ∷ es)) ≡ (if k == q then Some e else element_at q (x ∷ es))
    go on Less h = rw h (ap (λ b. cond b (Some e) (element_at q (x ∷ es))) (at_flipped q k))
    go on Equal h = rw (h, same k x.0 q h) (twice (k == q) (Some e) (Some x.1) (element_at q es))
    go on Greater h = rw h (past (is_at (nat_cmp q) x.0) (k == q) (Some x.1) (Some e) (element_at q es) (element_at q (put k e es)) (apart k x.0 q h) on)

below_put : (j k : ℕ) (e : Element) (es : List Entry) → nat_cmp j k ≡ Less → IsBelow j (keys_of es) → IsBelow j (keys_of (put k e es))
below_put j k e [] h below = (h, tt)
below_put j k e (x ∷ es) h below = go (below_put j k e es h below.1) (nat_cmp k x.0) refl
  where
    go : IsBelow j (keys_of (put k e es)) → (o : Ordering) → nat_cmp k x.0 ≡ o → IsBelow j (keys_of (put k e (x ∷ es)))
    go on Less c = rw c (h, below)
    go on Equal c = rw c below
    go on Greater c = rw c (below.0, on)

below_more : (j k : ℕ) (es : List Entry) → nat_cmp j k ≡ Less → IsBelow k (keys_of es) → IsBelow j (keys_of es)
below_more j k [] h below = tt
below_more j k (x ∷ es) h below = (through j k x.0 h below.0, below_more j k es h below.1)
  where
    through : (a b c : ℕ) → nat_cmp a b ≡ Less → nat_cmp b c ≡ Less → nat_cmp a c ≡ Less
    through a b c h g = grind (arith, nat_tests)

pub put_sorted : (k : ℕ) (e : Element) (es : List Entry) → AreSorted es → AreSorted (put k e es)
put_sorted k e [] sorted = sorted_cons (k, e) [] tt sorted
put_sorted k e (x ∷ es) sorted = go (put_sorted k e es (sorted_tail nat_cmp x.0 (keys_of es) sorted)) (nat_cmp k x.0) refl
  where
    below : IsBelow x.0 (keys_of es)
    below = sorted_head nat_cmp x.0 (keys_of es) sorted

    tail : AreSorted es
    tail = sorted_tail nat_cmp x.0 (keys_of es) sorted

    flipped : (a b : ℕ) → nat_cmp a b ≡ Greater → nat_cmp b a ≡ Less
    flipped a b h = grind (arith, nat_tests)

    go : AreSorted (put k e es) → (o : Ordering) → nat_cmp k x.0 ≡ o → AreSorted (put k e (x ∷ es))
    go on Less c = rw c (sorted_cons (k, e) (x ∷ es) (c, below_more k x.0 es c below) sorted)
    go on Equal c = rw c (sorted_cons (x.0, e) es below tail)
    go on Greater c = rw c (sorted_cons x (put k e es) (below_put x.0 k e es (flipped k x.0 c) below) on)

-- ---- an element is taken away

-- what is below all ids has no element
pub none_below : (q k : ℕ) (es : List Entry) → q ≡ k → IsBelow k (keys_of es) → element_at q es ≡ None
none_below q k [] e below = refl
none_below q k (x ∷ es) e below = rw (not_later q k x.0 e below.0) (none_below q k es e below.1)
  where
    not_later : (q k y : ℕ) → q ≡ k → nat_cmp k y ≡ Less → is_at (nat_cmp q) y ≡ false
    not_later q k y e h = grind (arith, nat_tests)

below_without : (j k : ℕ) (es : List Entry) → IsBelow j (keys_of es) → IsBelow j (keys_of (without k es))
below_without j k [] below = tt
below_without j k (x ∷ es) below = go (below_without j k es below.1) (is_at (nat_cmp k) x.0) refl
  where
    go : IsBelow j (keys_of (without k es)) → (b : Bool) → is_at (nat_cmp k) x.0 ≡ b → IsBelow j (keys_of (without k (x ∷ es)))
    go on true h = rw h below.1
    go on false h = rw h (below.0, on)

pub without_sorted : (k : ℕ) (es : List Entry) → AreSorted es → AreSorted (without k es)
without_sorted k [] sorted = sorted
without_sorted k (x ∷ es) sorted = go (without_sorted k es (sorted_tail nat_cmp x.0 (keys_of es) sorted)) (is_at (nat_cmp k) x.0) refl
  where
    tail : AreSorted es
    tail = sorted_tail nat_cmp x.0 (keys_of es) sorted

    go : AreSorted (without k es) → (b : Bool) → is_at (nat_cmp k) x.0 ≡ b → AreSorted (without k (x ∷ es))
    go on true h = rw h tail
    go on false h = rw h (sorted_cons x (without k es) (below_without x.0 k es (sorted_head nat_cmp x.0 (keys_of es) sorted)) on)

pub without_looks : (k : ℕ) (es : List Entry) → AreSorted es → (q : ℕ) → element_at q (without k es) ≡ (if k == q then None else element_at q es)
without_looks k [] sorted q = go (k == q)
  where
    nothing : Option Element
    nothing = None

    go : (b : Bool) → nothing ≡ cond b None None
    go true = refl
    go false = refl
without_looks k (x ∷ es) sorted q = go (without_looks k es (sorted_tail nat_cmp x.0 (keys_of es) sorted) q) (is_at (nat_cmp k) x.0) refl
  where
    tail : AreSorted es
    tail = sorted_tail nat_cmp x.0 (keys_of es) sorted

    as_here : (k x q : ℕ) → is_at (nat_cmp k) x ≡ true → is_at (nat_cmp q) x ≡ (k == q)
    as_here k x q h = grind (arith, nat_tests)

    same : (k x q : ℕ) → is_at (nat_cmp k) x ≡ true → (k == q) ≡ true → q ≡ x
    same k x q h g = grind (arith, nat_tests)

    apart : (k x q : ℕ) → is_at (nat_cmp k) x ≡ false → is_at (nat_cmp q) x ≡ true → (k == q) ≡ false
    apart k x q h at = grind (arith, nat_tests)

    gone : (b : Bool) (x z : Option Element) → (b ≡ true → z ≡ None) → z ≡ cond b None (cond b x z)
    gone true x z none = none refl
    gone false x z none = refl

    past : (at here : Bool) (x z r : Option Element) → (at ≡ true → here ≡ false) → r ≡ cond here None z → cond at x r ≡ cond here None (cond at x z)
    past true here x z r apart on = rw (apart refl) refl
    past false here x z r apart on = on

    go : element_at q (without k es) ≡ (if k == q then None else element_at q es) → (b : Bool) → is_at (nat_cmp k) x.0 ≡ b → element_at q (without k (x ∷ es)) ≡ (if k == q then None else element_at q (x ∷ es))
    go on true h = rw (h, as_here k x.0 q h) (gone (k == q) (Some x.1) (element_at q es) (λ g. none_below q x.0 es (same k x.0 q h g) (sorted_head nat_cmp x.0 (keys_of es) sorted)))
    go on false h = rw h (past (is_at (nat_cmp q) x.0) (k == q) (Some x.1) (element_at q es) (element_at q (without k es)) (apart k x.0 q h) on)

-- ---- the first of a group

both : (a b : Bool) → (a && b) ≡ true → (a ≡ true) × (b ≡ true)
both true true h = (refl, refl)
both true false h = absurd cc
both false b h = absurd cc

-- what is found is an element of the group
pub record IsFirst (of : Element → Option ℕ) (group from : ℕ) (es : List Entry) (x : Entry) : Type 0 where
  pub found : element_at x.0 es ≡ Some x.1
  pub low : from ≤ x.0
  pub member : is_group group (of x.1) ≡ true
  pub least : (q : ℕ) (e : Element) → element_at q es ≡ Some e → from ≤ q → is_group group (of e) ≡ true → x.0 ≤ q

module _ (of : Element → Option ℕ) (group from : ℕ) where
  itself : (n : ℕ) → is_at (nat_cmp n) n ≡ true
  itself n = grind (arith, nat_tests)

  at_most : (m n : ℕ) → nat_le m n ≡ true → m ≤ n
  at_most m n h = grind (arith, nat_tests)

  within : (m n : ℕ) → m ≤ n → nat_le m n ≡ true
  within m n h = grind (arith, nat_tests)

  at_itself : (q k : ℕ) → is_at (nat_cmp q) k ≡ true → q ≡ k
  at_itself q k h = grind (arith, nat_tests)

  -- an id that has an element stands after the first one
  at_or_after : (q : ℕ) (e : Element) (x : Entry) (es : List Entry) → IsBelow x.0 (keys_of es) → element_at q (x ∷ es) ≡ Some e → x.0 ≤ q
  at_or_after q e x es below found = go (is_at (nat_cmp q) x.0) refl found
    where
      later : (q k : ℕ) (es : List Entry) → IsBelow k (keys_of es) → element_at q es ≡ Some e → k ≤ q
      later q k [] below found = absurd cc
      later q k (y ∷ es) below found = go (later q k es below.1) (is_at (nat_cmp q) y.0) refl found
        where
          low : (q k y : ℕ) → nat_cmp k y ≡ Less → is_at (nat_cmp q) y ≡ true → k ≤ q
          low q k y h g = grind (arith, nat_tests)

          go : (element_at q es ≡ Some e → k ≤ q) → (b : Bool) → is_at (nat_cmp q) y.0 ≡ b → cond b (Some y.1) (element_at q es) ≡ Some e → k ≤ q
          go on true h found = low q k y.0 below.0 h
          go on false h found = on found

      go : (b : Bool) → is_at (nat_cmp q) x.0 ≡ b → cond b (Some x.1) (element_at q es) ≡ Some e → x.0 ≤ q
      go true h found = let same = at_itself q x.0 h in omega arith
      go false h found = later q x.0 es below found

  -- the first one that passes is an element of the group, and none before it is
  pub first_is : (es : List Entry) → AreSorted es → (x : Entry) → first_in of group from es ≡ Some x → IsFirst of group from es x
  first_is [] sorted x h = absurd cc
  first_is (y ∷ es) sorted x h = go (first_is es tail x) (is_in_from of group from y) refl h
    where
      below : IsBelow y.0 (keys_of es)
      below = sorted_head nat_cmp y.0 (keys_of es) sorted

      tail : AreSorted es
      tail = sorted_tail nat_cmp y.0 (keys_of es) sorted

      head_is : is_in_from of group from y ≡ true → IsFirst of group from (y ∷ es) y
      head_is h = let parts = both (nat_le from y.0) (is_group group (of y.1)) h in record {
        found = rw (itself y.0) refl;
        low = at_most from y.0 parts.0;
        member = parts.1;
        least = λ q e found low member. at_or_after q e y es below found;
      }

      tail_is : is_in_from of group from y ≡ false → IsFirst of group from es x → IsFirst of group from (y ∷ es) x
      tail_is h first = record { found = found; low = first.low; member = first.member; least = least }
        where
          above : y.0 < x.0
          above = strictly x.0 es below first.found
            where
              strictly : (q : ℕ) (es : List Entry) → IsBelow y.0 (keys_of es) → element_at q es ≡ Some x.1 → y.0 < q
              strictly q [] below found = absurd cc
              strictly q (z ∷ es) below found = go (strictly q es below.1) (is_at (nat_cmp q) z.0) refl found
                where
                  low : (q k z : ℕ) → nat_cmp k z ≡ Less → is_at (nat_cmp q) z ≡ true → k < q
                  low q k z h g = grind (arith, nat_tests)

                  go : (element_at q es ≡ Some x.1 → y.0 < q) → (b : Bool) → is_at (nat_cmp q) z.0 ≡ b → cond b (Some z.1) (element_at q es) ≡ Some x.1 → y.0 < q
                  go on true h found = low q y.0 z.0 below.0 h
                  go on false h found = on found

          found : element_at x.0 (y ∷ es) ≡ Some x.1
          found = rw (not_at x.0 y.0 above) first.found
            where
              not_at : (q k : ℕ) → k < q → is_at (nat_cmp q) k ≡ false
              not_at q k h = grind (arith, nat_tests)

          least : (q : ℕ) (e : Element) → element_at q (y ∷ es) ≡ Some e → from ≤ q → is_group group (of e) ≡ true → x.0 ≤ q
          least q e there low member = go (is_at (nat_cmp q) y.0) refl there
            where
              go : (b : Bool) → is_at (nat_cmp q) y.0 ≡ b → cond b (Some y.1) (element_at q es) ≡ Some e → x.0 ≤ q
              go true at same = let place = at_itself q y.0 at in let that : y.1 ≡ e = cc in absurd (differ h (rw (within from y.0 (omega arith)) (subst (λ v. is_group group (of v) ≡ true) (sym that) member)))
                where
                  differ : {b : Bool} → b ≡ false → b ≡ true → ⊥
                  differ e f = absurd cc
              go false at same = first.least q e same low member

      go : (first_in of group from es ≡ Some x → IsFirst of group from es x) → (b : Bool) → is_in_from of group from y ≡ b → (if b then Some y else first_in of group from es) ≡ Some x → IsFirst of group from (y ∷ es) x
      go on true b same = let that : y ≡ x = cc in subst (IsFirst of group from (y ∷ es)) that (head_is b)
      go on false b same = tail_is b (on same)

  -- where none is found, none is in the group
  pub none_is : (es : List Entry) → first_in of group from es ≡ None → (q : ℕ) (e : Element) → element_at q es ≡ Some e → from ≤ q → is_group group (of e) ≡ false
  none_is [] h q e found low = absurd cc
  none_is (y ∷ es) h q e found low = go (none_is es) (is_in_from of group from y) refl h
    where
      go : (first_in of group from es ≡ None → (q : ℕ) (e : Element) → element_at q es ≡ Some e → from ≤ q → is_group group (of e) ≡ false) → (b : Bool) → is_in_from of group from y ≡ b → (if b then Some y else first_in of group from es) ≡ None → is_group group (of e) ≡ false
      go on true b same = absurd cc
      go on false b same = at (is_at (nat_cmp q) y.0) refl found
        where
          at : (c : Bool) → is_at (nat_cmp q) y.0 ≡ c → cond c (Some y.1) (element_at q es) ≡ Some e → is_group group (of e) ≡ false
          at true here there = let place = at_itself q y.0 here in let that : y.1 ≡ e = cc in subst (λ v. is_group group (of v) ≡ false) that (rw (within from y.0 (omega arith)) at b)
          at false here there = on same q e there low
