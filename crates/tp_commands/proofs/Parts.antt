-- Desks that take part in a race or a drain, brought to the front and put back.
use Rattle.std.proofs.Common.{◌≡◌, inl, inr, ℕ, zero, suc, ◌+◌, ◌<◌, ◌≤◌, Bool, true, false, ◌&&◌, not, is_some, List, [], ◌∷◌, ◌++◌, Option, Some, None, IfSome, All, refl, sym, ◌∙◌, ap, subst, arith, length, get_or, slice_set, zip, drop, take}
use Rattle.std.specs.List.{AllZip, swap}
use Rattle.std.specs.declared.alloc.Global.{Global}
use Rattle.std.specs.declared.dyn_box.DynBox.{DynBox}
use Rattle.std.proofs.lemmas.Bool.Decides.{eqb_tells}
use Rattle.std.proofs.lemmas.List.{get_or-drop, get_or_default, length-drop, take-append-drop}
use Rattle.std.proofs.lemmas.List.Edits.{length-swap, swapped_from_swap}
use Rattle.std.proofs.lemmas.List.Elements.{All-head, All-tail, AllZip-get_or}
use Rattle.tp_server.specs.Behaviour.{Behaviour}
use Rattle.tp_server.specs.Pending.{Pending}
use Rattle.tp_manager.specs.Shown.{PassShown}
use Rattle.tp_desk.specs.declared.aside.Aside.{Aside}
use Rattle.tp_workers.specs.declared.tally.Shift.{Shift}
use Rattle.tp_workers.specs.Desks as workers
use Rattle.tp_workers.specs.Ran.{RanAll}
use Rattle.tp_commands.specs.declared.place.Place.{Place}
use Rattle.tp_commands.specs.Acting.{PlaceShown, is_free, place_shown, places_shown, work_in}
use Rattle.tp_commands.proofs.Shows.{shown_free}
use Rattle.tp_commands.specs.Places.{AllLie, IsFreeAt, Lies}
use Rattle.tp_commands.specs.Together.{AllTakePart, ArePassed, TakesPart}
use Rattle.tp_commands.specs.Places.{has_none, is_free_at}
use Rattle.tp_commands.proofs.Lefts.{swap_back}
use Rattle.tp_commands.proofs.Lies.{lie_at, lie_set}
use Rattle.tp_commands.proofs.Shows.{shown_append, shown_set}

-- ---- lists

pub all_zip_append : {A : Type 0} (R : A → A → Type 0) (xs ys us vs : List A) → AllZip R xs ys → AllZip R us vs → AllZip R (xs ++ us) (ys ++ vs)
all_zip_append R [] [] us vs all more = more
all_zip_append R [] (y ∷ ys) us vs all more = absurd all
all_zip_append R (x ∷ xs) [] us vs all more = absurd all
all_zip_append R (x ∷ xs) (y ∷ ys) us vs all more = (all.0, all_zip_append R xs ys us vs all.1 more)

all_zip_set : {A : Type 0} (R : A → A → Type 0) (xs ys : List A) (i : ℕ) (x y : A) → R x y → AllZip R xs ys → AllZip R (slice_set xs i x) (slice_set ys i y)
all_zip_set R [] [] i x y one all = all
all_zip_set R [] (v ∷ ys) i x y one all = absurd all
all_zip_set R (u ∷ xs) [] i x y one all = absurd all
all_zip_set R (u ∷ xs) (v ∷ ys) zero x y one all = (one, all.1)
all_zip_set R (u ∷ xs) (v ∷ ys) (suc i) x y one all = (all.0, all_zip_set R xs ys i x y one all.1)

all_zip_swap : {A : Type 0} (R : A → A → Type 0) (xs ys : List A) (a b : ℕ) → a < length xs → b < length xs → AllZip R xs ys → AllZip R (swap xs a b) (swap ys a b)
all_zip_swap R [] [] a b within also all = all
all_zip_swap R [] (v ∷ ys) a b within also all = absurd all
all_zip_swap R (u ∷ xs) [] a b within also all = absurd all
all_zip_swap R (u ∷ xs) (v ∷ ys) a b within also all =
    all_zip_set R _ _ b _ _ (AllZip-get_or R (u ∷ xs) (v ∷ ys) a u v all within)
    (all_zip_set R (u ∷ xs) (v ∷ ys) a _ _ (AllZip-get_or R (u ∷ xs) (v ∷ ys) b u v all also) all)

-- what two lists that changed places hold, holds of those that changed back
pub parts_back : {A : Type 0} (R : A → A → Type 0) (xs ys zs us : List A) (a b : ℕ) → a < length xs → b < length xs → ys ≡ swap xs a b → AllZip R ys zs → us ≡ swap zs a b → AllZip R xs us
parts_back R xs ys zs us a b within also is all last =
    let long : length ys ≡ length xs = ap length is ∙ length-swap xs a b in
    let again : AllZip R (swap ys a b) (swap zs a b) = all_zip_swap R ys zs a b (omega (arith, long, within)) (omega (arith, long, also)) all in
    let first : swap ys a b ≡ xs = ap (λ l. swap l a b) is ∙ swap_back xs a b within also in
    subst (λ l. AllZip R xs l) (sym last) (subst (λ l. AllZip R l (swap zs a b)) first again)

-- ---- places

both_true : (b c : Bool) → b && c ≡ true → (b ≡ true) × (c ≡ true)
both_true true c e = (refl, e)
both_true false c e = absurd cc

none_of : {A : Type 0} (o : Option A) → not (is_some o) ≡ true → o ≡ None
none_of None e = refl
none_of (Some x) e = absurd cc

-- a free place has nothing in hand
pub free_now : {X : Type 0} {F : X → Type 0} (o : Place X F) → is_free_at o ≡ true → IsFreeAt o
free_now {X = X} {F = F} o is = go o.aside (both_true (not o.is_dropped) (has_none o.aside) is).1
  where
    go : (a : Option (Aside X F)) → has_none a ≡ true → IfSome a (λ x. x.work ≡ None)
    go None e = absurd cc
    go (Some a) e = none_of a.work e

pub all_free : {X : Type 0} {F : X → Type 0} (os : List (Place X F)) → All (λ o. is_free_at o ≡ true) os → All IsFreeAt os
all_free os all i d within = free_now (get_or os i d) (all i d within)

module _ {X : Type 0} {F : X → Type 0} (os : List (Place X F)) (front at : ℕ) where
  pub passed_swapped : at < length os → front ≤ at → ArePassed front at os → ArePassed (front + 1) (at + 1) (swap os front at)
  passed_swapped within low before i d from_on high =
      let swapped = swapped_from_swap os (swap os front at) front at d (omega (arith, low, within)) within refl in
      elim (eqb_tells i at) [
        | inl p ↦ ap is_free_at (ap (λ n. get_or (swap os front at) n d) p.1 ∙ swapped.1) ∙ before front d (omega arith) (omega (arith, p.1, from_on))
        | inr p ↦ ap is_free_at (swapped.2 i (omega (arith, from_on)) p.1) ∙ before i d (omega (arith, from_on)) (omega (arith, high, p.1))
      ]

  pub passed_behind : length os ≤ at → ArePassed front at os → All (λ o. is_free_at o ≡ false) (drop front os)
  passed_behind end before i d within =
      let long = length-drop front os in
      ap is_free_at (get_or-drop front os i d) ∙ before (front + i) d (omega arith) (omega (arith, long, within, end))

module _ {X : Type 0} {F : X → Type 0} (behaviour : DynBox X Global F → Behaviour) (registers : DynBox X Global F → List ℕ) (pending : DynBox X Global F → Option Pending) where
  abbrev Box : Type 0
  Box = DynBox X Global F

  abbrev Lie : List PassShown → List Box → List (Place X F) → Type 0
  Lie ps ss os = AllLie behaviour registers pending ps ss os

  abbrev Show : List PassShown → List Box → List (Place X F) → List PlaceShown
  Show ps ss os = places_shown behaviour registers pending ps ss os

  -- two of them in each other's place
  shown_get : (ps : List PassShown) (ss : List Box) (os : List (Place X F)) (i : ℕ) (p : PassShown) (s : Box) (o : Place X F) → i < length os → Lie ps ss os
      → get_or (Show ps ss os) i (place_shown behaviour registers pending p s o) ≡ place_shown behaviour registers pending (get_or ps i p) (get_or ss i s) (get_or os i o)
  shown_get [] [] [] i p s o within all = absurd (omega (arith, within))
  shown_get [] [] (z ∷ os) i p s o within all = absurd all
  shown_get [] (y ∷ ss) os i p s o within all = absurd all
  shown_get (x ∷ ps) [] os i p s o within all = absurd all
  shown_get (x ∷ ps) (y ∷ ss) [] i p s o within all = absurd all
  shown_get (x ∷ ps) (y ∷ ss) (z ∷ os) zero p s o within all = refl
  shown_get (x ∷ ps) (y ∷ ss) (z ∷ os) (suc i) p s o within all = shown_get ps ss os i p s o (omega (arith, within)) all.1

  pub shown_swap : (ps : List PassShown) (ss : List Box) (os : List (Place X F)) (a b : ℕ) → a < length os → b < length os → Lie ps ss os
      → Show (swap ps a b) (swap ss a b) (swap os a b) ≡ swap (Show ps ss os) a b
  shown_swap [] [] [] a b within also all = refl
  shown_swap [] [] (o ∷ os) a b within also all = absurd all
  shown_swap [] (s ∷ ss) os a b within also all = absurd all
  shown_swap (p ∷ ps) [] os a b within also all = absurd all
  shown_swap (p ∷ ps) (s ∷ ss) [] a b within also all = absurd all
  shown_swap (p ∷ ps) (s ∷ ss) (o ∷ os) a b within also all =
      shown_set behaviour registers pending _ _ _ b _ _ _ (lie_set behaviour registers pending (p ∷ ps) (s ∷ ss) (o ∷ os) a _ _ _ (lie_at behaviour registers pending (p ∷ ps) (s ∷ ss) (o ∷ os) b p s o also all) all)
      ∙ (ap (λ zs. slice_set zs b (place_shown behaviour registers pending (get_or (p ∷ ps) a p) (get_or (s ∷ ss) a s) (get_or (o ∷ os) a o))) (shown_set behaviour registers pending (p ∷ ps) (s ∷ ss) (o ∷ os) a _ _ _ all)
      ∙ (ap (λ z. slice_set (slice_set (Show (p ∷ ps) (s ∷ ss) (o ∷ os)) a z) b (place_shown behaviour registers pending (get_or (p ∷ ps) a p) (get_or (s ∷ ss) a s) (get_or (o ∷ os) a o))) (sym (shown_get (p ∷ ps) (s ∷ ss) (o ∷ os) b p s o also all))
      ∙ ap (λ z. slice_set (slice_set (Show (p ∷ ps) (s ∷ ss) (o ∷ os)) a (get_or (Show (p ∷ ps) (s ∷ ss) (o ∷ os)) b (place_shown behaviour registers pending p s o))) b z) (sym (shown_get (p ∷ ps) (s ∷ ss) (o ∷ os) a p s o within all))))

  pub shown_length : (ps : List PassShown) (ss : List Box) (os : List (Place X F)) → Lie ps ss os → length (Show ps ss os) ≡ length os
  shown_length [] [] [] all = refl
  shown_length [] [] (o ∷ os) all = absurd all
  shown_length [] (s ∷ ss) os all = absurd all
  shown_length (p ∷ ps) [] os all = absurd all
  shown_length (p ∷ ps) (s ∷ ss) [] all = absurd all
  shown_length (p ∷ ps) (s ∷ ss) (o ∷ os) all = ap suc (shown_length ps ss os all.1)

  -- those that don't take part
  pub stay_put : (Did : workers.DeskPlace → workers.DeskPlace → Type 0) (ps : List PassShown) (ss : List Box) (os : List (Place X F)) → Lie ps ss os → All (λ o. is_free_at o ≡ false) os → AllTakePart Did (Show ps ss os) (Show ps ss os)
  stay_put Did [] [] [] all busy = tt
  stay_put Did [] [] (o ∷ os) all busy = absurd all
  stay_put Did [] (s ∷ ss) os all busy = absurd all
  stay_put Did (p ∷ ps) [] os all busy = absurd all
  stay_put Did (p ∷ ps) (s ∷ ss) [] all busy = absurd all
  stay_put Did (p ∷ ps) (s ∷ ss) (o ∷ os) all busy =
      let this = place_shown behaviour registers pending p s o in
      (subst (λ b. TakesPart b Did this this) (sym (shown_free behaviour registers pending p s o all.0 ∙ All-head (λ o. is_free_at o ≡ false) o os busy)) refl, stay_put Did ps ss os all.1 (All-tail (λ o. is_free_at o ≡ false) o os busy))

  -- those that do
  took : (Did : workers.DeskPlace → workers.DeskPlace → Type 0) (p q : PassShown) (s t : Box) (o : Place X F) → Lies behaviour registers pending p s o.aside → is_free_at o ≡ true
      → Did (workers.place behaviour registers pending (p, s)) (workers.place behaviour registers pending (q, t))
      → TakesPart (is_free (place_shown behaviour registers pending p s o)) Did (place_shown behaviour registers pending p s o) (place_shown behaviour registers pending q t o)
  took Did p q s t o lies free did = subst (λ b. TakesPart b Did (place_shown behaviour registers pending p s o) (place_shown behaviour registers pending q t o)) (sym (shown_free behaviour registers pending p s o lies ∙ free))
      (record { did = did; none_left = go o.aside lies (free_now o free); began = refl; kept = refl })
    where
      go : (a : Option (Aside X F)) → Lies behaviour registers pending p s a → IfSome a (λ x. x.work ≡ None) → work_in a ≡ None
      go None lies none = absurd lies
      go (Some a) lies none = none

  pub took_part : (R : PassShown × Box → Shift → PassShown × Box → Type 0) (Did : workers.DeskPlace → workers.DeskPlace → Type 0)
      → ((x : PassShown × Box) (c : Shift) (y : PassShown × Box) → R x c y → Did (workers.place behaviour registers pending x) (workers.place behaviour registers pending y))
      → (ps : List PassShown) (ss : List Box) (os : List (Place X F)) (c : Shift) (qs : List PassShown) (ts : List Box)
      → Lie ps ss os → All (λ o. is_free_at o ≡ true) os → length qs ≡ length ps → length ts ≡ length ss → RanAll R (zip ps ss) c (zip qs ts) → AllTakePart Did (Show ps ss os) (Show qs ts os)
  took_part R Did did [] [] [] c [] [] all free e k h = tt
  took_part R Did did [] [] [] c [] (t ∷ ts) all free e k h = absurd (omega (arith, k))
  took_part R Did did [] [] [] c (q ∷ qs) ts all free e k h = absurd (omega (arith, e))
  took_part R Did did [] [] (o ∷ os) c qs ts all free e k h = absurd all
  took_part R Did did [] (s ∷ ss) os c qs ts all free e k h = absurd all
  took_part R Did did (p ∷ ps) [] os c qs ts all free e k h = absurd all
  took_part R Did did (p ∷ ps) (s ∷ ss) [] c qs ts all free e k h = absurd all
  took_part R Did did (p ∷ ps) (s ∷ ss) (o ∷ os) c [] ts all free e k h = absurd (omega (arith, e))
  took_part R Did did (p ∷ ps) (s ∷ ss) (o ∷ os) c (q ∷ qs) [] all free e k h = absurd (omega (arith, k))
  took_part R Did did (p ∷ ps) (s ∷ ss) (o ∷ os) c (q ∷ qs) (t ∷ ts) all free e k h = (
    took Did p q s t o all.0 (All-head (λ o. is_free_at o ≡ true) o os free) (did (p, s) h.0 (q, t) h.2),
    took_part R Did did ps ss os h.1 qs ts all.1 (All-tail (λ o. is_free_at o ≡ true) o os free) (omega (arith, e)) (omega (arith, k)) h.3,
  )

  -- those in front took part, and the others didn't
  pub parts_front : (R : PassShown × Box → Shift → PassShown × Box → Type 0) (Did : workers.DeskPlace → workers.DeskPlace → Type 0)
      → ((x : PassShown × Box) (c : Shift) (y : PassShown × Box) → R x c y → Did (workers.place behaviour registers pending x) (workers.place behaviour registers pending y))
      → (n : ℕ) (ps : List PassShown) (ss : List Box) (os : List (Place X F)) (ps' ps'' : List PassShown) (ss' ss'' : List Box) (c : Shift) (qs : List PassShown) (ts : List Box)
      → ps ≡ ps' ++ ps'' → ss ≡ ss' ++ ss'' → Lie ps' ss' (take n os) → Lie ps'' ss'' (drop n os) → Lie qs ts (take n os)
      → All (λ o. is_free_at o ≡ true) (take n os) → All (λ o. is_free_at o ≡ false) (drop n os)
      → length qs ≡ length ps' → length ts ≡ length ss' → RanAll R (zip ps' ss') c (zip qs ts) → AllTakePart Did (Show ps ss os) (Show (qs ++ ps'') (ts ++ ss'') os)
  parts_front R Did did n ps ss os ps' ps'' ss' ss'' c qs ts first second before after worked free busy e k ran =
      let whole : take n os ++ drop n os ≡ os = take-append-drop n os in
      let old : Show ps ss os ≡ Show ps' ss' (take n os) ++ Show ps'' ss'' (drop n os) =
      (λ i. Show (first i) (second i) (sym whole i)) ∙ shown_append behaviour registers pending ps' ss' (take n os) ps'' ss'' (drop n os) before in
      let new : Show (qs ++ ps'') (ts ++ ss'') os ≡ Show qs ts (take n os) ++ Show ps'' ss'' (drop n os) =
      ap (Show (qs ++ ps'') (ts ++ ss'')) (sym whole) ∙ shown_append behaviour registers pending qs ts (take n os) ps'' ss'' (drop n os) worked in
      let both = all_zip_append (λ (o n : PlaceShown). TakesPart (is_free o) Did o n) (Show ps' ss' (take n os)) (Show qs ts (take n os)) (Show ps'' ss'' (drop n os)) (Show ps'' ss'' (drop n os))
      (took_part R Did did ps' ss' (take n os) c qs ts before free e k ran) (stay_put Did ps'' ss'' (drop n os) after busy) in
      subst (λ zs. AllTakePart Did (Show ps ss os) zs) (sym new) (subst (λ zs. AllTakePart Did zs (Show qs ts (take n os) ++ Show ps'' ss'' (drop n os))) (sym old) both)
