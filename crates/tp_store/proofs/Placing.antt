-- The indexes of all elements, as one element is put or taken away.
use Rattle.std.proofs.Common.{◌≡◌, ◌==◌, ◌&&◌, ◌||◌, ◌≤◌, ◌<◌, ◌^◌, ℕ, Bool, true, false, cond, if◌then◌else◌, inr, Option, Some, None, List, [], ◌∷◌, refl, sym, ◌∙◌, ap, subst, arith}
use Rattle.std.specs.Ordering.{nat_cmp}
use Rattle.std.specs.BTreeMap.{is_at}
use Rattle.std.specs.Ordering.{match_ordering}
use Rattle.std.specs.declared.cmp.Ordering.TheVariants.{Equal, Greater}
use Rattle.std.proofs.lemmas.Map.{keys-set_value}
use Rattle.std.proofs.lemmas.Map.Keys.{sorted_head, sorted_tail}
use Rattle.std.specs.List.Sorted.{IsStrictlySortedBy}
use Rattle.std.specs.Map.{keys_of, set_value}
use Rattle.std.proofs.lemmas.Bool.Decides.{nat_tests}
use Rattle.tp_store.specs.declared.element.Element.{Element}
use Rattle.tp_store.specs.declared.indexes.Indexes.{Indexes}
use Rattle.tp_store.specs.Elements.{Entry, element_at, is_group, put}
use Rattle.tp_store.specs.Elements.{alive_of, family_of, owned_of, queue_of, reply_of, unless_own}
use Rattle.tp_store.specs.Indexes.{has}
use Rattle.tp_store.specs.Indexing.{IsIn, HasEntered, HasLeft, HaveEntered, HaveLeft, HaveSame, HasSame, Places, StandsIn}
use Rattle.tp_store.specs.Shelves.{AreSorted, AreIndexed, IsIndexOf, IsPutAt, group_at, groups_at, Grouping, stands}
use Rattle.tp_store.proofs.Finding.{at_number, later}
use Rattle.tp_store.proofs.Groupings.{gone_over, others_stay, same_number, undone}

stands_as : (of : Grouping) (g id : ℕ) (x : Option Element) → stands of g id x ≡ is_group g (group_at of id x)
stands_as of g id None = refl
stands_as of g id (Some e) = refl

is_in : (of : Grouping) (id : ℕ) (es : List Entry) (places : Places) → IsIndexOf of es places → IsIn id (group_at of id (element_at id es)) places
is_in of id es places is = λ g. is g id ∙ stands_as of g id (element_at id es)

-- what a map says of a query, as a test of numbers
pub put_at : (id : ℕ) (x : Option Element) (es ns : List Entry) → ((q : ℕ) → element_at q ns ≡ cond (is_at (nat_cmp id) q) x (element_at q es)) → IsPutAt id x es ns
put_at id x es ns h = λ q. h q ∙ ap (λ b. cond b x (element_at q es)) (at_number id q)

-- the index of one group, where an element has gone from its group to another
still_index : (of : Grouping) (id : ℕ) (x : Option Element) (es ns : List Entry) (old mid new : Places) → IsIndexOf of es old → HasEntered id (group_at of id x) old mid → HasLeft id (group_at of id (element_at id es)) (group_at of id x) mid new → IsPutAt id x es ns → IsIndexOf of ns new
still_index of id x es ns old mid new is entered left put = λ g i. go g i (id == i) refl
  where
    known : IsIn id (group_at of id (element_at id es)) old
    known = is_in of id es old is

    go : (g i : ℕ) (b : Bool) → (id == i) ≡ b → has new g i ≡ stands of g i (element_at i ns)
    go g i true h = subst (λ j. has new g j ≡ stands of g j (element_at j ns)) (same_number id i h) (gone_over id _ (group_at of id x) old mid new known entered left g ∙ (sym (stands_as of g id x) ∙ ap (stands of g id) (sym (there h))))
      where
        there : (id == i) ≡ true → element_at id ns ≡ x
        there h = put id ∙ rw (subst (λ j. (id == j) ≡ true) (sym (same_number id i h)) h) refl
    go g i false h = others_stay id _ (group_at of id x) old mid new known entered left g i h ∙ (is g i ∙ ap (stands of g i) (sym (put i ∙ rw h refl)))

module _ (id : ℕ) (es : List Entry) (x : Indexes) (i : AreIndexed es x) where
  -- each index has an id in the groups of its element
  pub known : StandsIn id (groups_at id (element_at id es)) x
  known = record {
    queue = is_in (λ j. queue_of) id es x.queues i.queue;
    reply = is_in (λ j. reply_of) id es x.replies i.reply;
    owned = is_in (λ j. owned_of) id es x.owned i.owned;
    family = is_in (unless_own family_of) id es x.families i.family;
    alive = is_in (unless_own alive_of) id es x.alive i.alive;
  }

  fits_still : (e : Option Element) (ns : List Entry) → id < 2 ^ 64 → IsPutAt id e es ns → (q : ℕ) → 2 ^ 64 ≤ q → element_at q ns ≡ None
  fits_still e ns small put q large = put q ∙ (rw (apart id q small large) (i.fits q large))
    where
      apart : (m n : ℕ) → m < 2 ^ 64 → 2 ^ 64 ≤ n → (m == n) ≡ false
      apart m n low high = grind (arith, nat_tests)

  -- the element x is at this id now, if it is one, and has gone over from its groups
  pub indexed_put : (e : Option Element) (ns : List Entry) (mid new : Indexes) → id < 2 ^ 64 → IsPutAt id e es ns → IsStrictlySortedBy nat_cmp (keys_of ns) → HaveEntered id (groups_at id e) x mid → HaveLeft id (groups_at id (element_at id es)) (groups_at id e) mid new → AreIndexed ns new
  indexed_put e ns mid new small put sorted entered left = record {
    sorted = sorted;
    fits = fits_still e ns small put;
    queue = still_index (λ j. queue_of) id e es ns _ _ _ i.queue entered.queue left.queue put;
    reply = still_index (λ j. reply_of) id e es ns _ _ _ i.reply entered.reply left.reply put;
    owned = still_index (λ j. owned_of) id e es ns _ _ _ i.owned entered.owned left.owned put;
    family = still_index (unless_own family_of) id e es ns _ _ _ i.family entered.family left.family put;
    alive = still_index (unless_own alive_of) id e es ns _ _ _ i.alive entered.alive left.alive put;
  }

  -- an element that is taken away has entered no group
  pub none_entered : HaveEntered id (groups_at id None) x x
  none_entered = record {
    queue = λ g j. as_it_was _ _;
    reply = λ g j. as_it_was _ _;
    owned = λ g j. as_it_was _ _;
    family = λ g j. as_it_was _ _;
    alive = λ g j. as_it_was _ _;
  }
    where
      as_it_was : (a b : Bool) → a ≡ (a || (b && false))
      as_it_was true b = refl
      as_it_was false true = refl
      as_it_was false false = refl

  same_index : (of : Grouping) (ns : List Entry) (old new : Places) → IsIndexOf of es old → HasSame old new → ns ≡ es → IsIndexOf of ns new
  same_index of ns old new is same e = λ g j. same g j ∙ (is g j ∙ ap (λ es. stands of g j (element_at j es)) (sym e))

  -- what was begun and undone is as it was
  pub indexed_again : (e : Option Element) (ns : List Entry) (mid new : Indexes) → ns ≡ es → HaveEntered id (groups_at id e) x mid → HaveLeft id (groups_at id e) (groups_at id (element_at id es)) mid new → AreIndexed ns new
  indexed_again e ns mid new is entered left = record {
    sorted = subst (λ es. IsStrictlySortedBy nat_cmp (keys_of es)) (sym is) i.sorted;
    fits = λ q large. rw is (i.fits q large);
    queue = same_index (λ j. queue_of) ns _ _ i.queue (undone id _ _ _ _ _ known.queue (inr entered.queue) left.queue) is;
    reply = same_index (λ j. reply_of) ns _ _ i.reply (undone id _ _ _ _ _ known.reply (inr entered.reply) left.reply) is;
    owned = same_index (λ j. owned_of) ns _ _ i.owned (undone id _ _ _ _ _ known.owned (inr entered.owned) left.owned) is;
    family = same_index (unless_own family_of) ns _ _ i.family (undone id _ _ _ _ _ known.family (inr entered.family) left.family) is;
    alive = same_index (unless_own alive_of) ns _ _ i.alive (undone id _ _ _ _ _ known.alive (inr entered.alive) left.alive) is;
  }

  -- and so where nothing was begun
  pub indexed_same : (new : Indexes) → HaveSame x new → AreIndexed es new
  indexed_same new same = record {
    sorted = i.sorted;
    fits = i.fits;
    queue = same_index (λ j. queue_of) es _ _ i.queue same.queue refl;
    reply = same_index (λ j. reply_of) es _ _ i.reply same.reply refl;
    owned = same_index (λ j. owned_of) es _ _ i.owned same.owned refl;
    family = same_index (unless_own family_of) es _ _ i.family same.family refl;
    alive = same_index (unless_own alive_of) es _ _ i.alive same.alive refl;
  }

-- ---- an element that is written over

itself : (n : ℕ) → is_at (nat_cmp n) n ≡ true
itself n = grind (arith, nat_tests)

equal_at : (m n : ℕ) → is_at (nat_cmp m) n ≡ true → nat_cmp m n ≡ Equal
equal_at m n h = grind (arith, nat_tests)

greater_at : (m n : ℕ) → n < m → nat_cmp m n ≡ Greater
greater_at m n h = grind (arith, nat_tests)

other_at : (id q k : ℕ) → is_at (nat_cmp id) k ≡ true → (id == q) ≡ false → is_at (nat_cmp q) k ≡ false
other_at id q k h apart = grind (arith, nat_tests)

same_at : (id q k : ℕ) → is_at (nat_cmp id) k ≡ true → (id == q) ≡ true → is_at (nat_cmp q) k ≡ true
same_at id q k h same = grind (arith, nat_tests)

apart_at : (id q k : ℕ) → is_at (nat_cmp id) k ≡ false → is_at (nat_cmp q) k ≡ true → (id == q) ≡ false
apart_at id q k h at = grind (arith, nat_tests)

written : (id : ℕ) (e v : Element) (es : List Entry) → AreSorted es → element_at id es ≡ Some e → set_value (is_at (nat_cmp id)) es v ≡ put id v es
written id e v [] sorted found = absurd cc
written id e v (x ∷ es) sorted found = go (λ h. written id e v es (sorted_tail nat_cmp x.0 (keys_of es) sorted) h) (is_at (nat_cmp id) x.0) refl found
  where
    go : (element_at id es ≡ Some e → set_value (is_at (nat_cmp id)) es v ≡ put id v es) → (at : Bool) → is_at (nat_cmp id) x.0 ≡ at → cond at (Some x.1) (element_at id es) ≡ Some e → cond at ((x.0, v) ∷ es) (x ∷ set_value (is_at (nat_cmp id)) es v) ≡ match_ordering (nat_cmp id x.0) ((id, v) ∷ x ∷ es) ((x.0, v) ∷ es) (x ∷ put id v es)
    go on true at h = rw (equal_at id x.0 at) refl
    go on false at h = rw (greater_at id x.0 (later id x.0 e es h (sorted_head nat_cmp x.0 (keys_of es) sorted))) (ap (λ xs. x ∷ xs) (on h))

written_at : (id q : ℕ) (e v : Element) (es : List Entry) → element_at id es ≡ Some e → element_at q (set_value (is_at (nat_cmp id)) es v) ≡ (if id == q then Some v else element_at q es)
written_at id q e v [] found = absurd cc
written_at id q e v (x ∷ es) found = go (λ h. written_at id q e v es h) (is_at (nat_cmp id) x.0) refl found
  where
    here : is_at (nat_cmp id) x.0 ≡ true → (b : Bool) → (id == q) ≡ b → cond (is_at (nat_cmp q) x.0) (Some v) (element_at q es) ≡ (if b then Some v else cond (is_at (nat_cmp q) x.0) (Some x.1) (element_at q es))
    here at true same = rw (same_at id q x.0 at same) refl
    here at false apart = rw (other_at id q x.0 at apart) refl

    there : is_at (nat_cmp id) x.0 ≡ false → element_at q (set_value (is_at (nat_cmp id)) es v) ≡ (if id == q then Some v else element_at q es) → (b : Bool) → is_at (nat_cmp q) x.0 ≡ b → cond b (Some x.1) (element_at q (set_value (is_at (nat_cmp id)) es v)) ≡ (if id == q then Some v else cond b (Some x.1) (element_at q es))
    there at on true is = rw (apart_at id q x.0 at is) refl
    there at on false is = on

    go : (element_at id es ≡ Some e → element_at q (set_value (is_at (nat_cmp id)) es v) ≡ (if id == q then Some v else element_at q es)) → (at : Bool) → is_at (nat_cmp id) x.0 ≡ at → cond at (Some x.1) (element_at id es) ≡ Some e → element_at q (cond at ((x.0, v) ∷ es) (x ∷ set_value (is_at (nat_cmp id)) es v)) ≡ (if id == q then Some v else element_at q (x ∷ es))
    go on true at h = here at (id == q) refl
    go on false at h = there at (on h) (is_at (nat_cmp q) x.0) refl

-- what is written over an element is put in its place
pub record IsReplaced (id : ℕ) (v : Element) (es ns : List Entry) : Type 0 where
  pub put_is : ns ≡ put id v es
  pub at : IsPutAt id (Some v) es ns
  pub sorted : AreSorted ns

pub replaced : (id : ℕ) (e v k : Element) (es ns : List Entry) → k ≡ v → AreSorted es → element_at id es ≡ Some e → ns ≡ set_value (is_at (nat_cmp id)) es k → IsReplaced id v es ns
replaced id e v k es ns same sorted found is = record {
  put_is = is_now ∙ written id e v es sorted found;
  at = λ q. ap (element_at q) is_now ∙ written_at id q e v es found;
  sorted = subst (λ ks. IsStrictlySortedBy nat_cmp ks) (sym (ap keys_of is_now ∙ keys-set_value (is_at (nat_cmp id)) es v)) sorted;
}
  where
    is_now : ns ≡ set_value (is_at (nat_cmp id)) es v
    is_now = is ∙ ap (set_value (is_at (nat_cmp id)) es) same
