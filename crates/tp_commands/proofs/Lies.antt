-- Desks that lie aside, at one of their places and at several.
use Rattle.std.proofs.Common.{◌≡◌, ℕ, zero, suc, ◌+◌, ◌<◌, ◌≤◌, List, [], ◌∷◌, ◌++◌, Option, Some, None, IfSome, All, refl, sym, ◌∙◌, ap, subst, arith, length, get_or, slice_set, take, drop, zip}
use Rattle.std.specs.List.{swap}
use Rattle.std.specs.declared.alloc.Global.{Global}
use Rattle.std.specs.declared.dyn_box.DynBox.{DynBox}
use Rattle.std.proofs.lemmas.List.{take-set, take-set-le, take_more}
use Rattle.std.proofs.lemmas.List.Edits.{length-swap, swap_is, swapped_from_swap}
use Rattle.std.proofs.lemmas.List.Elements.{All-append, All-cons, All-head, All-nil, All-tail}
use Rattle.tp_model.specs.declared.types.Work.{Work}
use Rattle.tp_server.specs.Behaviour.{Behaviour}
use Rattle.tp_server.specs.Pending.{Pending}
use Rattle.tp_manager.specs.Shown.{IsOf, ManagerShown, PassShown}
use Rattle.tp_desk.specs.declared.aside.Aside.{Aside}
use Rattle.tp_desk.specs.InHand.{InHand}
use Rattle.tp_desk.specs.Serving.{Leaves}
use Rattle.tp_desk.proofs.Keeping.{still_steady}
use Rattle.tp_workers.specs.declared.tally.Shift.{Shift}
use Rattle.tp_workers.specs.Desks.{IsDeskOf}
use Rattle.tp_workers.specs.Free.{IsFreePass}
use Rattle.tp_workers.specs.Ran.{RanAll}
use Rattle.tp_commands.specs.declared.place.Place.{Place}
use Rattle.tp_commands.specs.Places.{AllLie, IsFreeAt, Lies}

module _ {X : Type 0} {F : X → Type 0} (behaviour : DynBox X Global F → Behaviour) (registers : DynBox X Global F → List ℕ) (pending : DynBox X Global F → Option Pending) where
  abbrev Box : Type 0
  Box = DynBox X Global F

  abbrev Lie : List PassShown → List Box → List (Place X F) → Type 0
  Lie ps ss os = AllLie behaviour registers pending ps ss os

  -- the lists are as long as each other
  pub lie_passes : (ps : List PassShown) (ss : List Box) (os : List (Place X F)) → Lie ps ss os → length ps ≡ length os
  lie_passes [] [] [] all = refl
  lie_passes [] [] (o ∷ os) all = absurd all
  lie_passes [] (s ∷ ss) os all = absurd all
  lie_passes (p ∷ ps) [] os all = absurd all
  lie_passes (p ∷ ps) (s ∷ ss) [] all = absurd all
  lie_passes (p ∷ ps) (s ∷ ss) (o ∷ os) all = ap suc (lie_passes ps ss os all.1)

  pub lie_servers : (ps : List PassShown) (ss : List Box) (os : List (Place X F)) → Lie ps ss os → length ss ≡ length os
  lie_servers [] [] [] all = refl
  lie_servers [] [] (o ∷ os) all = absurd all
  lie_servers [] (s ∷ ss) os all = absurd all
  lie_servers (p ∷ ps) [] os all = absurd all
  lie_servers (p ∷ ps) (s ∷ ss) [] all = absurd all
  lie_servers (p ∷ ps) (s ∷ ss) (o ∷ os) all = ap suc (lie_servers ps ss os all.1)

  -- one of them
  pub lie_at : (ps : List PassShown) (ss : List Box) (os : List (Place X F)) (i : ℕ) (p : PassShown) (s : Box) (o : Place X F)
      → i < length os → Lie ps ss os → Lies behaviour registers pending (get_or ps i p) (get_or ss i s) (get_or os i o).aside
  lie_at [] [] [] i p s o within all = absurd (omega (arith, within))
  lie_at [] [] (z ∷ os) i p s o within all = absurd all
  lie_at [] (y ∷ ss) os i p s o within all = absurd all
  lie_at (x ∷ ps) [] os i p s o within all = absurd all
  lie_at (x ∷ ps) (y ∷ ss) [] i p s o within all = absurd all
  lie_at (x ∷ ps) (y ∷ ss) (z ∷ os) zero p s o within all = all.0
  lie_at (x ∷ ps) (y ∷ ss) (z ∷ os) (suc i) p s o within all = lie_at ps ss os i p s o (omega (arith, within)) all.1

  pub lie_set : (ps : List PassShown) (ss : List Box) (os : List (Place X F)) (i : ℕ) (p : PassShown) (s : Box) (o : Place X F)
      → Lies behaviour registers pending p s o.aside → Lie ps ss os → Lie (slice_set ps i p) (slice_set ss i s) (slice_set os i o)
  lie_set [] [] [] i p s o one all = all
  lie_set [] [] (z ∷ os) i p s o one all = absurd all
  lie_set [] (y ∷ ss) os i p s o one all = absurd all
  lie_set (x ∷ ps) [] os i p s o one all = absurd all
  lie_set (x ∷ ps) (y ∷ ss) [] i p s o one all = absurd all
  lie_set (x ∷ ps) (y ∷ ss) (z ∷ os) zero p s o one all = (one, all.1)
  lie_set (x ∷ ps) (y ∷ ss) (z ∷ os) (suc i) p s o one all = (all.0, lie_set ps ss os i p s o one all.1)

  -- the first, and the others
  pub lie_parts : (ps : List PassShown) (ss : List Box) (os : List (Place X F)) (p : PassShown) (ps' : List PassShown) (s : Box) (ss' : List Box) (o : Place X F) (os' : List (Place X F))
      → ps ≡ p ∷ ps' → ss ≡ s ∷ ss' → os ≡ o ∷ os' → Lie ps ss os → Lies behaviour registers pending p s o.aside × Lie ps' ss' os'
  lie_parts ps ss os p ps' s ss' o os' e f h all =
      subst (λ x. Lie (p ∷ ps') (s ∷ ss') x) h (subst (λ x. Lie (p ∷ ps') x os) f (subst (λ x. Lie x ss os) e all))

  -- two of them in each other's place
  pub lie_swap : (ps : List PassShown) (ss : List Box) (os : List (Place X F)) (a b : ℕ) → a < length os → b < length os → Lie ps ss os → Lie (swap ps a b) (swap ss a b) (swap os a b)
  lie_swap [] [] [] a b within also all = all
  lie_swap [] [] (o ∷ os) a b within also all = absurd all
  lie_swap [] (s ∷ ss) os a b within also all = absurd all
  lie_swap (p ∷ ps) [] os a b within also all = absurd all
  lie_swap (p ∷ ps) (s ∷ ss) [] a b within also all = absurd all
  lie_swap (p ∷ ps) (s ∷ ss) (o ∷ os) a b within also all =
      lie_set _ _ _ b _ _ _ (lie_at (p ∷ ps) (s ∷ ss) (o ∷ os) a p s o within all)
      (lie_set (p ∷ ps) (s ∷ ss) (o ∷ os) a _ _ _ (lie_at (p ∷ ps) (s ∷ ss) (o ∷ os) b p s o also all) all)

  -- the first ones, and the others
  pub lie_front : (n : ℕ) (ps : List PassShown) (ss : List Box) (os : List (Place X F)) → Lie ps ss os → Lie (take n ps) (take n ss) (take n os)
  lie_front zero ps ss os all = tt
  lie_front (suc n) [] [] [] all = tt
  lie_front (suc n) [] [] (o ∷ os) all = absurd all
  lie_front (suc n) [] (s ∷ ss) os all = absurd all
  lie_front (suc n) (p ∷ ps) [] os all = absurd all
  lie_front (suc n) (p ∷ ps) (s ∷ ss) [] all = absurd all
  lie_front (suc n) (p ∷ ps) (s ∷ ss) (o ∷ os) all = (all.0, lie_front n ps ss os all.1)

  pub lie_back : (n : ℕ) (ps : List PassShown) (ss : List Box) (os : List (Place X F)) → Lie ps ss os → Lie (drop n ps) (drop n ss) (drop n os)
  lie_back zero ps ss os all = all
  lie_back (suc n) [] [] [] all = tt
  lie_back (suc n) [] [] (o ∷ os) all = absurd all
  lie_back (suc n) [] (s ∷ ss) os all = absurd all
  lie_back (suc n) (p ∷ ps) [] os all = absurd all
  lie_back (suc n) (p ∷ ps) (s ∷ ss) [] all = absurd all
  lie_back (suc n) (p ∷ ps) (s ∷ ss) (o ∷ os) all = lie_back n ps ss os all.1

  pub lie_append : (ps : List PassShown) (ss : List Box) (os : List (Place X F)) (qs : List PassShown) (ts : List Box) (ns : List (Place X F))
      → Lie ps ss os → Lie qs ts ns → Lie (ps ++ qs) (ss ++ ts) (os ++ ns)
  lie_append [] [] [] qs ts ns all more = more
  lie_append [] [] (o ∷ os) qs ts ns all more = absurd all
  lie_append [] (s ∷ ss) os qs ts ns all more = absurd all
  lie_append (p ∷ ps) [] os qs ts ns all more = absurd all
  lie_append (p ∷ ps) (s ∷ ss) [] qs ts ns all more = absurd all
  lie_append (p ∷ ps) (s ∷ ss) (o ∷ os) qs ts ns all more = (all.0, lie_append ps ss os qs ts ns all.1 more)

  -- where nothing is in hand, the pass has no unit open, and the server nothing prepared
  free_at : (p : PassShown) (s : Box) (a : Option (Aside X F)) → Lies behaviour registers pending p s a → IfSome a (λ x. x.work ≡ None) → (p.open_unit ≡ None) × (pending s ≡ None)
  free_at p s None lies none = absurd lies
  free_at p s (Some a) lies none =
      let idle : InHand (behaviour s) (registers s) (pending s) None a.drafts.items a.first_pass.value p =
      subst (λ (o : Option Work). InHand (behaviour s) (registers s) (pending s) o a.drafts.items a.first_pass.value p) none lies.in_hand in
      (idle.open_unit, idle.unprepared)

  pub lie_free : (m : ManagerShown) (ps : List PassShown) (ss : List Box) (os : List (Place X F)) → Lie ps ss os → All IsFreeAt os → All (IsOf m) ps → All (IsFreePass m) ps
  lie_free m [] [] [] all free own = All-nil (IsFreePass m)
  lie_free m [] [] (o ∷ os) all free own = absurd all
  lie_free m [] (s ∷ ss) os all free own = absurd all
  lie_free m (p ∷ ps) [] os all free own = absurd all
  lie_free m (p ∷ ps) (s ∷ ss) [] all free own = absurd all
  lie_free m (p ∷ ps) (s ∷ ss) (o ∷ os) all free own =
      All-cons (IsFreePass m) p ps (record { own = All-head (IsOf m) p ps own; free = (free_at p s o.aside all.0 (All-head IsFreeAt o os free)).0 }) (lie_free m ps ss os all.1 (All-tail IsFreeAt o os free) (All-tail (IsOf m) p ps own))

  pub lie_clear : (ps : List PassShown) (ss : List Box) (os : List (Place X F)) → Lie ps ss os → All IsFreeAt os → All (λ s. pending s ≡ None) ss
  lie_clear [] [] [] all free = All-nil (λ s. pending s ≡ None)
  lie_clear [] [] (o ∷ os) all free = absurd all
  lie_clear [] (s ∷ ss) os all free = absurd all
  lie_clear (p ∷ ps) [] os all free = absurd all
  lie_clear (p ∷ ps) (s ∷ ss) [] all free = absurd all
  lie_clear (p ∷ ps) (s ∷ ss) (o ∷ os) all free =
      All-cons (λ s. pending s ≡ None) s ss (free_at p s o.aside all.0 (All-head IsFreeAt o os free)).1 (lie_clear ps ss os all.1 (All-tail IsFreeAt o os free))

  -- what a shift or a drain leaves of a place where nothing is in hand
  pub record Worked (m : ManagerShown) (old : PassShown × Box) (new : PassShown × Box) : Type 0 where
    pub leaves : Leaves (behaviour old.1) (registers old.1) (registers new.1) old.0 new.0
    pub behaviour_is : behaviour new.1 ≡ behaviour old.1
    pub ready : IsDeskOf behaviour registers pending m new

  still_at : (m : ManagerShown) (p q : PassShown) (s t : Box) (a : Option (Aside X F)) → Lies behaviour registers pending p s a → IfSome a (λ x. x.work ≡ None) → Worked m (p, s) (q, t) → Lies behaviour registers pending q t a
  still_at m p q s t None lies none w = absurd lies
  still_at m p q s t (Some a) lies none w =
      still_steady (behaviour s) (behaviour t) (registers a.first_server.value) (registers s) (registers t) (pending s) (pending t) a.first_pass.value p q a.work a.drafts.items
      lies none w.leaves w.behaviour_is w.ready.pass.free w.ready.unprepared

  pub lie_worked : (m : ManagerShown) (R : PassShown × Box → Shift → PassShown × Box → Type 0) → ((x : PassShown × Box) (c : Shift) (y : PassShown × Box) → R x c y → Worked m x y)
      → (ps : List PassShown) (ss : List Box) (os : List (Place X F)) (c : Shift) (qs : List PassShown) (ts : List Box)
      → Lie ps ss os → All IsFreeAt os → length qs ≡ length ps → length ts ≡ length ss → RanAll R (zip ps ss) c (zip qs ts) → Lie qs ts os
  lie_worked m R worked [] [] [] c [] [] all free e k h = tt
  lie_worked m R worked [] [] [] c [] (t ∷ ts) all free e k h = absurd (omega (arith, k))
  lie_worked m R worked [] [] [] c (q ∷ qs) ts all free e k h = absurd (omega (arith, e))
  lie_worked m R worked [] [] (o ∷ os) c qs ts all free e k h = absurd all
  lie_worked m R worked [] (s ∷ ss) os c qs ts all free e k h = absurd all
  lie_worked m R worked (p ∷ ps) [] os c qs ts all free e k h = absurd all
  lie_worked m R worked (p ∷ ps) (s ∷ ss) [] c qs ts all free e k h = absurd all
  lie_worked m R worked (p ∷ ps) (s ∷ ss) (o ∷ os) c [] ts all free e k h = absurd (omega (arith, e))
  lie_worked m R worked (p ∷ ps) (s ∷ ss) (o ∷ os) c (q ∷ qs) [] all free e k h = absurd (omega (arith, k))
  lie_worked m R worked (p ∷ ps) (s ∷ ss) (o ∷ os) c (q ∷ qs) (t ∷ ts) all free e k h = (
    still_at m p q s t o.aside all.0 (All-head IsFreeAt o os free) (worked (p, s) h.0 (q, t) h.2),
    lie_worked m R worked ps ss os h.1 qs ts all.1 (All-tail IsFreeAt o os free) (omega (arith, e)) (omega (arith, k)) h.3,
  )

-- one more comes after the first ones
pub free_more : {A : Type 0} (Is : A → Type 0) (os : List A) (f a : ℕ) (d : A) → f ≤ a → a < length os → All Is (take f os) → Is (get_or os a d) → All Is (take (f + 1) (swap os f a))
free_more Is os f a d low within front one =
    let inside : f < length os = omega (arith, low, within) in
    let came : get_or (swap os f a) f d ≡ get_or os a d = (swapped_from_swap os (swap os f a) f a d inside within refl).0 in
    let stayed : take f (swap os f a) ≡ take f os = ap (take f) (sym (swap_is os f a d inside within)) ∙ (take-set-le f _ a _ low ∙ take-set os f (get_or os a d)) in
    let more : take (f + 1) (swap os f a) ≡ take f (swap os f a) ++ get_or (swap os f a) f d ∷ [] = take_more (swap os f a) f d (omega (arith, inside, length-swap os f a)) in
    subst (All Is) (sym more)
    (All-append Is (take f (swap os f a)) (get_or (swap os f a) f d ∷ []) (subst (All Is) (sym stayed) front)
    (All-cons Is (get_or (swap os f a) f d) [] (subst Is (sym came) one) (All-nil Is)))
