-- What places show, one by one and together.
use Rattle.std.proofs.Common.{◌≡◌, ℕ, zero, suc, ◌+◌, ◌<◌, ◌&&◌, not, is_some, List, [], ◌∷◌, ◌++◌, Option, Some, None, refl, sym, ◌∙◌, ap, arith, length, get_or, slice_get, slice_set, sum_by, take, zip}
use Rattle.std.specs.declared.alloc.Global.{Global}
use Rattle.std.specs.declared.dyn_box.DynBox.{DynBox}
use Rattle.std.proofs.lemmas.List.{take_more}
use Rattle.std.proofs.lemmas.List.Sums.{sum_by-cons, sum_by-append}
use Rattle.std.proofs.lemmas.Slice.Zip.{get_or-zip}
use Rattle.tp_workers.proofs.Shifts.{zip_length}
use Rattle.tp_server.specs.Behaviour.{Behaviour}
use Rattle.tp_server.specs.Pending.{Pending}
use Rattle.tp_manager.specs.Shown.{PassShown}
use Rattle.tp_commands.specs.declared.place.Place.{Place}
use Rattle.tp_desk.specs.declared.aside.Aside.{Aside}
use Rattle.tp_commands.specs.Acting.{PlaceShown, is_free, new_place, new_places, place_shown, places_shown, work_in}
use Rattle.tp_commands.specs.Places.{AllLie, Lies, has_none, is_free_at}
use Rattle.tp_commands.specs.Registers.{register_sum}
use Rattle.tp_commands.specs.Registers.{counted_value, value_at}

-- one value more
pub sum_next : {A : Type 0} (f : A → ℕ) (xs : List A) (i : ℕ) (d : A) → i < length xs → sum_by f (take (i + 1) xs) ≡ sum_by f (take i xs) + f (get_or xs i d)
sum_next f xs i d within =
    let whole = ap (sum_by f) (take_more xs i d within) in
    let parts = sum_by-append f (take i xs) (get_or xs i d ∷ []) in
    let one = sum_by-cons f (get_or xs i d) [] in
    omega (arith, whole, parts, one)

module _ {X : Type 0} {F : X → Type 0} (behaviour : DynBox X Global F → Behaviour) (registers : DynBox X Global F → List ℕ) (pending : DynBox X Global F → Option Pending) where
  abbrev Box : Type 0
  Box = DynBox X Global F

  -- what a place shows of being free
  pub shown_free : (p : PassShown) (s : Box) (o : Place X F) → Lies behaviour registers pending p s o.aside → is_free (place_shown behaviour registers pending p s o) ≡ is_free_at o
  shown_free p s o lies = ap (λ b. not o.is_dropped && b) (go o.aside lies)
    where
      go : (a : Option (Aside X F)) → Lies behaviour registers pending p s a → not (is_some (work_in a)) ≡ has_none a
      go None lies = absurd lies
      go (Some a) lies = refl

  -- one of them, and whether it is free
  pub free_shown : (ps : List PassShown) (ss : List Box) (os : List (Place X F)) (i : ℕ) (o : Place X F) → i < length os → AllLie behaviour registers pending ps ss os
      → (z : PlaceShown) × (slice_get (places_shown behaviour registers pending ps ss os) i ≡ Some z) × (is_free z ≡ is_free_at (get_or os i o))
  free_shown [] [] [] i o within all = absurd (omega (arith, within))
  free_shown [] [] (z ∷ os) i o within all = absurd all
  free_shown [] (y ∷ ss) os i o within all = absurd all
  free_shown (x ∷ ps) [] os i o within all = absurd all
  free_shown (x ∷ ps) (y ∷ ss) [] i o within all = absurd all
  free_shown (x ∷ ps) (y ∷ ss) (z ∷ os) zero o within all = (place_shown behaviour registers pending x y z, refl, shown_free x y z all.0)
  free_shown (x ∷ ps) (y ∷ ss) (z ∷ os) (suc i) o within all = free_shown ps ss os i o (omega (arith, within)) all.1

  pub shown_free_at : (ps : List PassShown) (ss : List Box) (os : List (Place X F)) (i : ℕ) (p : PassShown) (s : Box) (o d : Place X F) → i < length os → AllLie behaviour registers pending ps ss os
      → is_free (place_shown behaviour registers pending (get_or ps i p) (get_or ss i s) (get_or os i o)) ≡ is_free_at (get_or os i d)
  shown_free_at [] [] [] i p s o d within all = absurd (omega (arith, within))
  shown_free_at [] [] (z ∷ os) i p s o d within all = absurd all
  shown_free_at [] (y ∷ ss) os i p s o d within all = absurd all
  shown_free_at (x ∷ ps) [] os i p s o d within all = absurd all
  shown_free_at (x ∷ ps) (y ∷ ss) [] i p s o d within all = absurd all
  shown_free_at (x ∷ ps) (y ∷ ss) (z ∷ os) zero p s o d within all = shown_free x y z all.0
  shown_free_at (x ∷ ps) (y ∷ ss) (z ∷ os) (suc i) p s o d within all = shown_free_at ps ss os i p s o d (omega (arith, within)) all.1

  -- one of them
  pub shown_at : (ps : List PassShown) (ss : List Box) (os : List (Place X F)) (i : ℕ) (p : PassShown) (s : Box) (o : Place X F)
      → i < length os → AllLie behaviour registers pending ps ss os
      → slice_get (places_shown behaviour registers pending ps ss os) i ≡ Some (place_shown behaviour registers pending (get_or ps i p) (get_or ss i s) (get_or os i o))
  shown_at [] [] [] i p s o within all = absurd (omega (arith, within))
  shown_at [] [] (z ∷ os) i p s o within all = absurd all
  shown_at [] (y ∷ ss) os i p s o within all = absurd all
  shown_at (x ∷ ps) [] os i p s o within all = absurd all
  shown_at (x ∷ ps) (y ∷ ss) [] i p s o within all = absurd all
  shown_at (x ∷ ps) (y ∷ ss) (z ∷ os) zero p s o within all = refl
  shown_at (x ∷ ps) (y ∷ ss) (z ∷ os) (suc i) p s o within all = shown_at ps ss os i p s o (omega (arith, within)) all.1

  pub shown_set : (ps : List PassShown) (ss : List Box) (os : List (Place X F)) (i : ℕ) (p : PassShown) (s : Box) (o : Place X F)
      → AllLie behaviour registers pending ps ss os
      → places_shown behaviour registers pending (slice_set ps i p) (slice_set ss i s) (slice_set os i o) ≡ slice_set (places_shown behaviour registers pending ps ss os) i (place_shown behaviour registers pending p s o)
  shown_set [] [] [] i p s o all = refl
  shown_set [] [] (z ∷ os) i p s o all = absurd all
  shown_set [] (y ∷ ss) os i p s o all = absurd all
  shown_set (x ∷ ps) [] os i p s o all = absurd all
  shown_set (x ∷ ps) (y ∷ ss) [] i p s o all = absurd all
  shown_set (x ∷ ps) (y ∷ ss) (z ∷ os) zero p s o all = refl
  shown_set (x ∷ ps) (y ∷ ss) (z ∷ os) (suc i) p s o all = ap (λ zs. place_shown behaviour registers pending x y z ∷ zs) (shown_set ps ss os i p s o all.1)

  pub value_next : (k : ℕ) (ss : List Box) (os : List (Place X F)) (i : ℕ) (s : Box) (o : Place X F) → length ss ≡ length os → i < length os
      → sum_by (value_at registers k) (take (i + 1) (zip ss os)) ≡ sum_by (value_at registers k) (take i (zip ss os)) + value_at registers k (get_or ss i s, get_or os i o)
  value_next k ss os i s o long within =
      let both = zip_length ss os long in
      sum_next (value_at registers k) (zip ss os) i (s, o) (omega (arith, both, long, within)) ∙ ap (λ x. sum_by (value_at registers k) (take i (zip ss os)) + value_at registers k x) (get_or-zip ss os i (s, o) (omega (arith, long, within)) within)

  -- what they add to the sum of a register
  pub shown_sum : (k : ℕ) (ps : List PassShown) (ss : List Box) (os : List (Place X F)) → AllLie behaviour registers pending ps ss os
      → sum_by (value_at registers k) (zip ss os) ≡ register_sum k (places_shown behaviour registers pending ps ss os)
  shown_sum k [] [] [] all = refl
  shown_sum k [] [] (z ∷ os) all = absurd all
  shown_sum k [] (y ∷ ss) os all = absurd all
  shown_sum k (x ∷ ps) [] os all = absurd all
  shown_sum k (x ∷ ps) (y ∷ ss) [] all = absurd all
  shown_sum k (x ∷ ps) (y ∷ ss) (z ∷ os) all =
      sum_by-cons (value_at registers k) (y, z) (zip ss os)
      ∙ (ap (λ n. value_at registers k (y, z) + n) (shown_sum k ps ss os all.1)
      ∙ sym (sum_by-cons (λ p. counted_value p.is_dropped (slice_get p.desk.registers k)) (place_shown behaviour registers pending x y z) (places_shown behaviour registers pending ps ss os)))

  -- the first ones, and the others
  pub shown_append : (ps : List PassShown) (ss : List Box) (os : List (Place X F)) (qs : List PassShown) (ts : List Box) (ns : List (Place X F)) → AllLie behaviour registers pending ps ss os
      → places_shown behaviour registers pending (ps ++ qs) (ss ++ ts) (os ++ ns) ≡ places_shown behaviour registers pending ps ss os ++ places_shown behaviour registers pending qs ts ns
  shown_append [] [] [] qs ts ns all = refl
  shown_append [] [] (z ∷ os) qs ts ns all = absurd all
  shown_append [] (y ∷ ss) os qs ts ns all = absurd all
  shown_append (x ∷ ps) [] os qs ts ns all = absurd all
  shown_append (x ∷ ps) (y ∷ ss) [] qs ts ns all = absurd all
  shown_append (x ∷ ps) (y ∷ ss) (z ∷ os) qs ts ns all = ap (λ zs. place_shown behaviour registers pending x y z ∷ zs) (shown_append ps ss os qs ts ns all.1)

  -- desks that begin, and one more
  new_more : (ps : List PassShown) (ss : List Box) (p : PassShown) (s : Box) → length ps ≡ length ss
      → new_places behaviour registers pending (ps ++ p ∷ []) (ss ++ s ∷ []) ≡ new_places behaviour registers pending ps ss ++ new_place behaviour registers pending p s ∷ []
  new_more [] [] p s long = refl
  new_more [] (y ∷ ss) p s long = absurd (omega (arith, long))
  new_more (x ∷ ps) [] p s long = absurd (omega (arith, long))
  new_more (x ∷ ps) (y ∷ ss) p s long = ap (λ zs. new_place behaviour registers pending x y ∷ zs) (new_more ps ss p s (omega (arith, long)))

  pub shown_more : (ps : List PassShown) (ss : List Box) (os : List (Place X F)) (p : PassShown) (s : Box) (o : Place X F) → AllLie behaviour registers pending ps ss os → length ps ≡ length ss
      → places_shown behaviour registers pending ps ss os ≡ new_places behaviour registers pending ps ss → place_shown behaviour registers pending p s o ≡ new_place behaviour registers pending p s
      → places_shown behaviour registers pending (ps ++ p ∷ []) (ss ++ s ∷ []) (os ++ o ∷ []) ≡ new_places behaviour registers pending (ps ++ p ∷ []) (ss ++ s ∷ [])
  shown_more ps ss os p s o all long same one =
      shown_append ps ss os (p ∷ []) (s ∷ []) (o ∷ []) all ∙ (ap (λ zs. zs ++ place_shown behaviour registers pending p s o ∷ []) same
      ∙ (ap (λ z. new_places behaviour registers pending ps ss ++ z ∷ []) one ∙ sym (new_more ps ss p s long)))
