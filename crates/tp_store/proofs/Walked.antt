-- What is listed of a queue, by one walk over its ids.
use Rattle.std.proofs.Common.{◌≡◌, ◌+◌, ◌-◌, ◌++◌, ◌≤◌, ◌<◌, ◌^◌, nat_le, ℕ, Bool, true, false, inl, Some, None, List, [], ◌∷◌, filter, take, refl, sym, subst, ◌∙◌, ap, arith}
use Rattle.std.proofs.lemmas.Bool.Decides.{nat_tests}
use Rattle.std.proofs.Math.Seq.{take-nil}
use Rattle.tp_store.specs.declared.element.Element.{Element}
use Rattle.tp_store.specs.declared.group.Group.TheVariants.{Family, Queue}
use Rattle.tp_store.specs.Elements.{Entry, element_at, family_of, queue_of, unless_own}
use Rattle.tp_store.specs.Indexes.{has, IsFirstFrom}
use Rattle.tp_store.specs.Indexing.{Places}
use Rattle.tp_store.specs.Listing.{is_among_from}
use Rattle.tp_store.specs.Shelves.{AreSorted, IsIndexOf, stands}
use Rattle.tp_store.proofs.Finding.{at_most, find_first, find_none, found_is}
use Rattle.tp_store.proofs.Listed.{first_listed, listed_none, listed_step, none_listed}
use Rattle.tp_store.proofs.Owning.{family_is, had, others}

-- an empty list is what is listed where none is
pub none_walked : (list xs : List Entry) (most : ℕ) → list ≡ [] → xs ≡ [] → list ≡ take most xs
none_walked list xs most empty none = empty ∙ sym (ap (take most) none ∙ take-nil most)

module _ (queue next : ℕ) (es : List Entry) (places : Places) (sorted : AreSorted es) (fits : (i : ℕ) → 2 ^ 64 ≤ i → element_at i es ≡ None) (index : IsIndexOf (λ j. queue_of) es places) where
  -- where no id is next, none is listed
  pub walked_none : IsFirstFrom places queue next None → filter (is_among_from (Queue queue) next) es ≡ []
  walked_none none = none_listed (Queue queue) next es (sym (found_is (λ j. queue_of) queue next es places sorted fits index None (inl none)))

  -- and else the next one is the first
  pub walked_one : (id : ℕ) (e : Element) → IsFirstFrom places queue next (Some id) → element_at id es ≡ Some e → filter (is_among_from (Queue queue) next) es ≡ (id, e) ∷ filter (is_among_from (Queue queue) (id + 1)) es
  walked_one id e first there = first_listed (Queue queue) next id e es sorted (sym (found_is (λ j. queue_of) queue next es places sorted fits index (Some (id, e)) (first, there)))

-- ---- of a request, from an id on that is above its own one

module _ (root next : ℕ) (above : root < next) (es : List Entry) (places : Places) (sorted : AreSorted es) (fits : (i : ℕ) → 2 ^ 64 ≤ i → element_at i es ≡ None) (index : IsIndexOf (unless_own family_of) es places) where
  stands_not : (i : ℕ) → next ≤ i → has places root i ≡ false → stands (λ j. family_of) root i (element_at i es) ≡ false
  stands_not i low none = others family_of family_is root i (element_at i es) (λ e. omega arith) (sym (index root i) ∙ none)

  pub members_none : IsFirstFrom places root next None → filter (is_among_from (Family root) next) es ≡ []
  members_none none = none_listed (Family root) next es (find_none (λ j. family_of) root next es sorted (λ i low. go i low (nat_le (2 ^ 64) i) refl))
    where
      go : (i : ℕ) → next ≤ i → (b : Bool) → nat_le (2 ^ 64) i ≡ b → stands (λ j. family_of) root i (element_at i es) ≡ false
      go i low true h = rw (fits i (at_most _ _ h)) refl
      go i low false h = stands_not i low (none i low (smaller i h))
        where
          smaller : (i : ℕ) → nat_le (2 ^ 64) i ≡ false → i < 2 ^ 64
          smaller i h = grind (arith, nat_tests)

  pub members_one : (id : ℕ) (e : Element) → IsFirstFrom places root next (Some id) → element_at id es ≡ Some e → filter (is_among_from (Family root) next) es ≡ (id, e) ∷ filter (is_among_from (Family root) (id + 1)) es
  members_one id e first there = first_listed (Family root) next id e es sorted (find_first (λ j. family_of) root next id e es sorted there first.0 (subst (λ x. stands (λ j. family_of) root id x ≡ true) there (had family_of family_is root id (element_at id es) (sym (index root id) ∙ first.1))) (λ i low high. stands_not i low (first.2 i low high)))

-- the first of a request, and those behind it
pub first_and_others : (xs ys : List Entry) (x : Entry) (most : ℕ) → 0 < most → xs ≡ x ∷ ys → (x ∷ []) ++ take (most - 1) ys ≡ take most xs
first_and_others xs ys x most some is = listed_step [] xs ys x 0 most some is ∙ listed_none [] xs most refl

-- none is added yet, all are to come
pub all_to_come : (list xs : List Entry) (most : ℕ) → list ++ take (most - 0) xs ≡ list ++ take most xs
all_to_come list xs most = ap (λ ys. list ++ ys) (listed_none [] xs most refl)
