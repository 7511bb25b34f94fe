-- Names that come and go stay in order, and what is so of all stays so.
use Rattle.std.proofs.Common.{◌≡◌, ◌∙◌, ℕ, Bool, true, false, cond, Some, None, List, [], ◌∷◌, refl, sym, ap, subst}
use Rattle.std.specs.Ordering.{ordering_reverse}
use Rattle.std.specs.declared.cmp.Ordering.{Ordering}
use Rattle.std.specs.declared.cmp.Ordering.TheVariants.{Less, Equal, Greater}
use Rattle.std.specs.BTreeMap.{is_at}
use Rattle.std.specs.Cmp.Lexicographic.{bytes_decides}
use Rattle.std.specs.List.{AllByRecursion}
use Rattle.std.specs.List.Sorted.{IsStrictlySortedBy}
use Rattle.std.specs.Map.{keys_of}
use Rattle.std.specs.Str.{bytes_eq}
use Rattle.std.proofs.lemmas.Map.Keys.{sorted_head, sorted_tail}
use Rattle.std.proofs.lemmas.Map.Text.{is_eq-slice_cmp}
use Rattle.tp_lines.specs.Names.{NameView, name_cmp}
use Rattle.tp_session.specs.Retold.{AreInOrder}
use Rattle.tp_session.specs.Roles.{named, put, without}
use Rattle.tp_session.proofs.RolesBack.{names_total}

pub tested : (a b : NameView) → is_at (name_cmp a) b ≡ bytes_eq a.letters b.letters
tested a b = is_eq-slice_cmp a.letters b.letters

pub same_from : (a b : NameView) → is_at (name_cmp a) b ≡ true → a ≡ b
same_from a b is = ap (λ w. as_name w) ((bytes_decides a.letters b.letters).0 (sym (tested a b) ∙ is))
  where
    as_name : List ℕ → NameView
    as_name w = record { letters = w }

abbrev pub IsBelow : NameView → List NameView → Type 0
IsBelow k names = AllByRecursion (λ y. name_cmp k y ≡ Less) names

ahead : (a b : NameView) → name_cmp a b ≡ Greater → name_cmp b a ≡ Less
ahead a b h = names_total.antisymm b a ∙ ap ordering_reverse h

module _ {A : Type 0} where
  sorted_cons : (e : NameView × A) (es : List (NameView × A)) → IsBelow e.0 (keys_of es) → AreInOrder es → AreInOrder (e ∷ es)
  unfolding IsStrictlySortedBy
  sorted_cons e es below sorted = (below, sorted)

  pub below_more : (j k : NameView) (es : List (NameView × A)) → name_cmp j k ≡ Less → IsBelow k (keys_of es) → IsBelow j (keys_of es)
  below_more j k [] h below = tt
  below_more j k (e ∷ es) h below = (names_total.trans j k e.0 h below.0, below_more j k es h below.1)

  below_put : (j name : NameView) (x : A) (es : List (NameView × A)) → name_cmp j name ≡ Less → IsBelow j (keys_of es) → IsBelow j (keys_of (put name x es))
  below_put j name x [] h below = (h, tt)
  below_put j name x (e ∷ es) h below = go (below_put j name x es h below.1) (name_cmp name e.0) refl
    where
      go : IsBelow j (keys_of (put name x es)) → (o : Ordering) → name_cmp name e.0 ≡ o → IsBelow j (keys_of (put name x (e ∷ es)))
      go on Less c = rw c (h, below)
      go on Equal c = rw c below
      go on Greater c = rw c (below.0, on)

  pub put_sorted : (name : NameView) (x : A) (es : List (NameView × A)) → AreInOrder es → AreInOrder (put name x es)
  put_sorted name x [] sorted = sorted_cons (name, x) [] tt sorted
  put_sorted name x (e ∷ es) sorted = go (put_sorted name x es tail) (name_cmp name e.0) refl
    where
      below : IsBelow e.0 (keys_of es)
      below = sorted_head name_cmp e.0 (keys_of es) sorted

      tail : AreInOrder es
      tail = sorted_tail name_cmp e.0 (keys_of es) sorted

      go : AreInOrder (put name x es) → (o : Ordering) → name_cmp name e.0 ≡ o → AreInOrder (put name x (e ∷ es))
      go on Less c = rw c (sorted_cons (name, x) (e ∷ es) (c, below_more name e.0 es c below) sorted)
      go on Equal c = rw c (sorted_cons (e.0, x) es below tail)
      go on Greater c = rw c (sorted_cons e (put name x es) (below_put e.0 name x es (ahead name e.0 c) below) on)

  below_without : (j name : NameView) (es : List (NameView × A)) → IsBelow j (keys_of es) → IsBelow j (keys_of (without name es))
  below_without j name [] below = tt
  below_without j name (e ∷ es) below = go (below_without j name es below.1) (is_at (name_cmp name) e.0) refl
    where
      go : IsBelow j (keys_of (without name es)) → (b : Bool) → is_at (name_cmp name) e.0 ≡ b → IsBelow j (keys_of (without name (e ∷ es)))
      go on true h = rw h below.1
      go on false h = rw h (below.0, on)

  pub without_sorted : (name : NameView) (es : List (NameView × A)) → AreInOrder es → AreInOrder (without name es)
  without_sorted name [] sorted = sorted
  without_sorted name (e ∷ es) sorted = go (without_sorted name es tail) (is_at (name_cmp name) e.0) refl
    where
      tail : AreInOrder es
      tail = sorted_tail name_cmp e.0 (keys_of es) sorted

      go : AreInOrder (without name es) → (b : Bool) → is_at (name_cmp name) e.0 ≡ b → AreInOrder (without name (e ∷ es))
      go on true h = rw h tail
      go on false h = rw h (sorted_cons e (without name es) (below_without e.0 name es (sorted_head name_cmp e.0 (keys_of es) sorted)) on)

  -- ---- what is so of each name and of what has it

  module _ (N : NameView → Type 0) (V : A → Type 0) where
    abbrev pub AllSo : List (NameView × A) → Type 0
    AllSo es = AllByRecursion (λ e. N e.0 × V e.1) es

    pub put_so : (name : NameView) (x : A) (es : List (NameView × A)) → N name → V x → AllSo es → AllSo (put name x es)
    put_so name x [] n v all = ((n, v), tt)
    put_so name x (e ∷ es) n v all = go (put_so name x es n v all.1) (name_cmp name e.0) refl
      where
        go : AllSo (put name x es) → (o : Ordering) → name_cmp name e.0 ≡ o → AllSo (put name x (e ∷ es))
        go on Less c = rw c ((n, v), all)
        go on Equal c = rw c ((all.0.0, v), all.1)
        go on Greater c = rw c (all.0, on)

    pub without_so : (name : NameView) (es : List (NameView × A)) → AllSo es → AllSo (without name es)
    without_so name [] all = tt
    without_so name (e ∷ es) all = go (without_so name es all.1) (is_at (name_cmp name) e.0) refl
      where
        go : AllSo (without name es) → (b : Bool) → is_at (name_cmp name) e.0 ≡ b → AllSo (without name (e ∷ es))
        go on true h = rw h all.1
        go on false h = rw h (all.0, on)

    pub named_so : (name : NameView) (x : A) (es : List (NameView × A)) → AllSo es → named name es ≡ Some x → N name × V x
    named_so name x [] all is = absurd cc
    named_so name x (e ∷ es) all is = go (named_so name x es all.1) (is_at (name_cmp name) e.0) refl is
      where
        go : (named name es ≡ Some x → N name × V x) → (b : Bool) → is_at (name_cmp name) e.0 ≡ b → cond b (Some e.1) (named name es) ≡ Some x → N name × V x
        go on true h is = let same : e.1 ≡ x = cc in (subst N (sym (same_from name e.0 h)) all.0.0, subst V same all.0.1)
        go on false h is = on is

  -- ---- names that nobody has

  pub none_after_put : (q name : NameView) (x : A) (es : List (NameView × A)) → is_at (name_cmp q) name ≡ false → named q es ≡ None → named q (put name x es) ≡ None
  none_after_put q name x [] apart is = rw apart refl
  none_after_put q name x (e ∷ es) apart is = at (none_after_put q name x es apart) (is_at (name_cmp q) e.0) refl is
    where
      at : (named q es ≡ None → named q (put name x es) ≡ None) → (b : Bool) → is_at (name_cmp q) e.0 ≡ b → cond b (Some e.1) (named q es) ≡ None → named q (put name x (e ∷ es)) ≡ None
      at rest true h is = absurd cc
      at rest false h is = go (rest is) (name_cmp name e.0) refl
        where
          go : named q (put name x es) ≡ None → (o : Ordering) → name_cmp name e.0 ≡ o → named q (put name x (e ∷ es)) ≡ None
          go on Less c = rw c (rw apart (rw h is))
          go on Equal c = rw c (rw h is)
          go on Greater c = rw c (rw h on)

  pub none_without : (q name : NameView) (es : List (NameView × A)) → named q es ≡ None → named q (without name es) ≡ None
  none_without q name [] is = refl
  none_without q name (e ∷ es) is = at (none_without q name es) (is_at (name_cmp q) e.0) refl is
    where
      at : (named q es ≡ None → named q (without name es) ≡ None) → (b : Bool) → is_at (name_cmp q) e.0 ≡ b → cond b (Some e.1) (named q es) ≡ None → named q (without name (e ∷ es)) ≡ None
      at rest true h is = absurd cc
      at rest false h is = go (rest is) (is_at (name_cmp name) e.0) refl
        where
          go : named q (without name es) ≡ None → (b : Bool) → is_at (name_cmp name) e.0 ≡ b → named q (without name (e ∷ es)) ≡ None
          go on true c = rw c is
          go on false c = rw c (rw h on)

  -- one that somebody has is another
  pub apart_from_named : (q name : NameView) (x : A) (es : List (NameView × A)) → named q es ≡ None → named name es ≡ Some x → is_at (name_cmp q) name ≡ false
  apart_from_named q name x es none some = go (is_at (name_cmp q) name) refl
    where
      go : (b : Bool) → is_at (name_cmp q) name ≡ b → b ≡ false
      go true h = absurd (let same : named q es ≡ Some x = subst (λ n. named n es ≡ Some x) (sym (same_from q name h)) some in cc)
      go false h = refl

  -- whoever is there has another name than one that nobody has
  pub all_apart : (name : NameView) (es : List (NameView × A)) → named name es ≡ None → AllByRecursion (λ e. is_at (name_cmp name) e.0 ≡ false) es
  all_apart name [] none = tt
  all_apart name (e ∷ es) none = go (is_at (name_cmp name) e.0) refl none (all_apart name es)
    where
      go : (b : Bool) → is_at (name_cmp name) e.0 ≡ b → cond b (Some e.1) (named name es) ≡ None → (named name es ≡ None → AllByRecursion (λ e. is_at (name_cmp name) e.0 ≡ false) es) → AllByRecursion (λ e. is_at (name_cmp name) e.0 ≡ false) (e ∷ es)
      go true h none on = absurd cc
      go false h none on = (h, on none)
