-- A gathering of all passes between two commands.
use Rattle.std.proofs.Common.{◌≡◌, ℕ, zero, suc, List, [], ◌∷◌, ◌++◌, All, Option, Some, None, refl, sym, ◌∙◌, ap, subst, length, map, drop, take, ◌+◌, arith}
use Rattle.std.specs.List.{AllZip}
use Rattle.std.specs.declared.alloc.Global.{Global}
use Rattle.std.specs.declared.dyn_box.DynBox.{DynBox}
use Rattle.std.proofs.lemmas.List.{take-append-drop}
use Rattle.std.proofs.lemmas.List.Elements.{All-cons, All-head, All-nil, All-tail, All-take}
use mathlib.Core.List.{IsPrefix}
use Rattle.tp_model.specs.declared.event.Event.{Event}
use Rattle.tp_model.specs.declared.types.Work.{Work}
use Rattle.tp_model.specs.Drafts.{DraftView}
use Rattle.tp_model.specs.History.{IsClaim, UnitClaim, element_of}
use Rattle.tp_model.proofs.Bridges.{append_nil, begins_trans, in_none}
use Rattle.tp_model.proofs.Histories.{element_of-kept}
use Rattle.tp_server.specs.Behaviour.{Behaviour}
use Rattle.tp_server.specs.Pending.{Pending}
use Rattle.tp_manager.specs.Accounts.{AreAll, Attends, Gathers}
use Rattle.tp_manager.specs.Bounds.{gather_steps}
use Rattle.tp_manager.specs.Calls.{IsQuiet}
use Rattle.tp_manager.specs.Shown.{IsOf, KeeperShown, ManagerShown, PassShown, numbers}
use Rattle.tp_desk.specs.declared.aside.Aside.{Aside}
use Rattle.tp_desk.specs.InHand.{InHand, IsDeskSteady}
use Rattle.tp_desk.specs.Serving.{AreUnitsEnded, gained}
use Rattle.tp_desk.proofs.Serves.{serves_more, still_ended}
use Rattle.tp_workers.specs.Free.{IsFreePass}
use Rattle.tp_commands.specs.declared.place.Place.{Place}
use Rattle.tp_commands.specs.Acting.{places_shown}
use Rattle.tp_commands.specs.Places.{AllLie, Lies, workers}
use Rattle.tp_commands.specs.Scenes.{Gathered, GatheredIn, OnlyPass, Scene, own_passes, passes_in}
use Rattle.tp_commands.specs.Told.{AreReady, IsScene, units_held}

-- ---- lists side by side

module _ {A : Type 0} (R : A → A → Type 0) where
  pub zip_take : (n : ℕ) (xs ys : List A) → AllZip R xs ys → AllZip R (take n xs) (take n ys)
  zip_take zero xs ys zip = tt
  zip_take (suc n) [] [] zip = tt
  zip_take (suc n) [] (y ∷ ys) zip = absurd zip
  zip_take (suc n) (x ∷ xs) [] zip = absurd zip
  zip_take (suc n) (x ∷ xs) (y ∷ ys) zip = (zip.0, zip_take n xs ys zip.1)

  pub zip_drop : (n : ℕ) (xs ys : List A) → AllZip R xs ys → AllZip R (drop n xs) (drop n ys)
  zip_drop zero xs ys zip = zip
  zip_drop (suc n) [] [] zip = tt
  zip_drop (suc n) [] (y ∷ ys) zip = absurd zip
  zip_drop (suc n) (x ∷ xs) [] zip = absurd zip
  zip_drop (suc n) (x ∷ xs) (y ∷ ys) zip = zip_drop n xs ys zip.1

-- ---- passes that have the same units open

heads_tails : (a b : Option ℕ) (xs ys : List (Option ℕ)) → a ∷ xs ≡ b ∷ ys → (a ≡ b) × (xs ≡ ys)
heads_tails a b xs ys e = (cc, cc)

still_free : (m m' : ManagerShown) (ps qs : List PassShown) → map (λ (p : PassShown). p.open_unit) qs ≡ map (λ (p : PassShown). p.open_unit) ps → All (IsOf m') qs → All (IsFreePass m) ps → All (IsFreePass m') qs
still_free m m' [] [] same own all = All-nil (IsFreePass m')
still_free m m' [] (q ∷ qs) same own all = absurd cc
still_free m m' (p ∷ ps) [] same own all = absurd cc
still_free m m' (p ∷ ps) (q ∷ qs) same own all =
    let parts = heads_tails q.open_unit p.open_unit (map (λ (p : PassShown). p.open_unit) qs) (map (λ (p : PassShown). p.open_unit) ps) same in
    let free = All-head (IsFreePass m) p ps all in
    All-cons (IsFreePass m') q qs (record { own = All-head (IsOf m') q qs own; free = parts.0 ∙ free.free })
    (still_free m m' ps qs parts.1 (All-tail (IsOf m') q qs own) (All-tail (IsFreePass m) p ps all))

-- ---- a pass that has done nothing but look

pub record Looks (p q : PassShown) : Type 0 where
  pub number : q.number ≡ p.number
  pub quiet : IsQuiet p q
  pub sees : IsPrefix p.seen q.seen

pub attended : (k : ℕ) (h : List Event) (p q : PassShown) → Attends k h p q → Looks p q
attended k h p q a = record { number = a.follows.number; quiet = a.quiet; sees = begins_trans p.seen _ q.seen a.follows.opened a.follows.closed }

pub zip_with : {R S : PassShown → PassShown → Type 0} → ((p q : PassShown) → R p q → S p q) → (ps qs : List PassShown) → AllZip R ps qs → AllZip S ps qs
zip_with f [] [] zip = tt
zip_with f [] (q ∷ qs) zip = absurd zip
zip_with f (p ∷ ps) [] zip = absurd zip
zip_with f (p ∷ ps) (q ∷ qs) zip = (f p q zip.0, zip_with f ps qs zip.1)

looks_own : (m : ManagerShown) (p q : PassShown) → Looks p q → IsFreePass m p → IsOf m q → IsFreePass m q
looks_own m p q looks free own = record { own = own; free = looks.quiet.open_unit ∙ free.free }

all_free : (m : ManagerShown) (ps qs : List PassShown) → AllZip Looks ps qs → All (IsOf m) qs → All (IsFreePass m) ps → All (IsFreePass m) qs
all_free m [] [] zip own all = All-nil (IsFreePass m)
all_free m [] (q ∷ qs) zip own all = absurd zip
all_free m (p ∷ ps) [] zip own all = absurd zip
all_free m (p ∷ ps) (q ∷ qs) zip own all =
    All-cons (IsFreePass m) q qs (looks_own m p q zip.0 (All-head (IsFreePass m) p ps all) (All-head (IsOf m) q qs own))
    (all_free m ps qs zip.1 (All-tail (IsOf m) q qs own) (All-tail (IsFreePass m) p ps all))

pub same_numbers : (ps qs : List PassShown) → AllZip Looks ps qs → numbers qs ≡ numbers ps
same_numbers [] [] zip = refl
same_numbers [] (q ∷ qs) zip = absurd zip
same_numbers (p ∷ ps) [] zip = absurd zip
same_numbers (p ∷ ps) (q ∷ qs) zip = let one = zip.0.number in ap (λ z. z ∷ numbers qs) one ∙ ap (λ zs. p.number ∷ zs) (same_numbers ps qs zip.1)

same_open : (ps qs : List PassShown) → AllZip Looks ps qs → map (λ (p : PassShown). p.open_unit) qs ≡ map (λ (p : PassShown). p.open_unit) ps
same_open [] [] zip = refl
same_open [] (q ∷ qs) zip = absurd zip
same_open (p ∷ ps) [] zip = absurd zip
same_open (p ∷ ps) (q ∷ qs) zip =
    let one : q.open_unit ≡ p.open_unit = zip.0.quiet.open_unit in
    ap (λ (z : Option ℕ). z ∷ map (λ (p : PassShown). p.open_unit) qs) one ∙ ap (λ (zs : List (Option ℕ)). p.open_unit ∷ zs) (same_open ps qs zip.1)

pub same_held : (n : ℕ) (ps qs : List PassShown) → AllZip Looks ps qs → units_held n qs ≡ units_held n ps
same_held n ps qs zip = same_open (drop n (drop 1 ps)) (drop n (drop 1 qs)) (zip_drop Looks n _ _ (zip_drop Looks 1 ps qs zip))

-- its desk stays steady
none_some : (t : UnitClaim) → None ≡ Some t → ⊥
none_some t e = cc

in_hand : (behaviour : Behaviour) (r : List ℕ) (pending : Option Pending) (f p q : PassShown) (work : Option Work) (drafts : List DraftView) → Looks p q → InHand behaviour r pending work drafts f p → InHand behaviour r pending work drafts f q
in_hand behaviour r pending f p q None drafts looks free = record { open_unit = looks.quiet.open_unit ∙ free.open_unit; unprepared = free.unprepared }
in_hand behaviour r pending f p q (Some w) drafts looks holds =
    let seen = looks.sees in
    record {
      open_unit = looks.quiet.open_unit ∙ holds.open_unit;
      claimed = subst (λ (h : List Event). IsClaim (gained f.mine h) q.number w.unit w.element.id w.attempt) (sym looks.quiet.mine)
          (subst (λ (c : ℕ). IsClaim (gained f.mine p.mine) c w.unit w.element.id w.attempt) (sym looks.number) holds.claimed);
      is_born = subst (λ (h : List Event). element_of h w.element.id ≡ Some w.element) seen.1 (element_of-kept p.seen seen.0 w.element.id w.element holds.is_born);
      prepared = holds.prepared;
    }

steady : (behaviour : Behaviour) (r : List ℕ) (pending : Option Pending) (start : List ℕ) (f p q : PassShown) (work : Option Work) (drafts : List DraftView)
    → Looks p q → IsDeskSteady behaviour r pending start f p work drafts → IsDeskSteady behaviour r pending start f q work drafts
steady behaviour r pending start f p q work drafts looks s =
    let seen = looks.sees in
    record {
      serves = serves_more behaviour start r r f p q [] [] looks.number seen (looks.quiet.mine ∙ sym (append_nil p.mine)) refl (λ c u outs at. absurd (in_none at)) refl (λ u t claimed. absurd (none_some t claimed)) s.serves;
      in_hand = in_hand behaviour r pending f p q work drafts looks s.in_hand;
      ended = subst (λ (o : Option ℕ). AreUnitsEnded o (gained f.mine q.mine) q.seen) (sym looks.quiet.open_unit) (subst (λ (h : List Event). AreUnitsEnded p.open_unit (gained f.mine h) q.seen) (sym looks.quiet.mine) (still_ended (gained f.mine p.mine) p.seen q.seen p.open_unit seen s.ended));
    }

module _ {X : Type 0} {F : X → Type 0} (behaviour : DynBox X Global F → Behaviour) (registers : DynBox X Global F → List ℕ) (pending : DynBox X Global F → Option Pending) where
  abbrev Box : Type 0
  Box = DynBox X Global F

  lies_on : (p q : PassShown) (s : Box) (a : Option (Aside X F)) → Looks p q → Lies behaviour registers pending p s a → Lies behaviour registers pending q s a
  lies_on p q s None looks lies = absurd lies
  lies_on p q s (Some a) looks lies = steady (behaviour s) (registers s) (pending s) (registers a.first_server.value) a.first_pass.value p q a.work a.drafts.items looks lies

  lie_on : (ps qs : List PassShown) (ss : List Box) (os : List (Place X F)) → AllZip Looks ps qs → AllLie behaviour registers pending ps ss os → AllLie behaviour registers pending qs ss os
  lie_on [] [] ss os zip all = all
  lie_on [] (q ∷ qs) ss os zip all = absurd zip
  lie_on (p ∷ ps) [] ss os zip all = absurd zip
  lie_on (p ∷ ps) (q ∷ qs) [] os zip all = absurd all
  lie_on (p ∷ ps) (q ∷ qs) (s ∷ ss) [] zip all = absurd all
  lie_on (p ∷ ps) (q ∷ qs) (s ∷ ss) (o ∷ os) zip all = (lies_on p q s o.aside zip.0 all.0, lie_on ps qs ss os zip.1 all.1)

  pub ready_on : (m : ManagerShown) (ps qs : List PassShown) (ss : List Box) (os : List (Place X F)) → AllZip Looks ps qs → All (IsOf m) qs → AreReady behaviour registers pending m ps ss os → AreReady behaviour registers pending m qs ss os
  ready_on m ps qs ss os zip own ready = record {
    own = own;
    client = all_free m (take 1 ps) (take 1 qs) (zip_take Looks 1 ps qs zip) (All-take (IsOf m) 1 qs own) ready.client;
    lie = lie_on _ _ ss os (zip_take Looks (length ss) _ _ (zip_drop Looks 1 ps qs zip)) ready.lie;
  }

  -- the passes of places are those that were lent
  shown_passes : (ps : List PassShown) (ss : List Box) (os : List (Place X F)) → AllLie behaviour registers pending ps ss os → map (λ p. p.desk.pass) (places_shown behaviour registers pending ps ss os) ≡ ps
  shown_passes [] [] [] all = refl
  shown_passes [] [] (o ∷ os) all = absurd all
  shown_passes [] (s ∷ ss) os all = absurd all
  shown_passes (p ∷ ps) [] os all = absurd all
  shown_passes (p ∷ ps) (s ∷ ss) [] all = absurd all
  shown_passes (p ∷ ps) (s ∷ ss) (o ∷ os) all = ap (λ zs. p ∷ zs) (shown_passes ps ss os all.1)

  pub all_in : (m : ManagerShown) (ps : List PassShown) (ss : List Box) (os : List (Place X F)) (a : Scene) → AreReady behaviour registers pending m ps ss os → IsScene behaviour registers pending ps ss os a → passes_in a ≡ ps
  all_in m ps ss os a ready is =
      ap (λ zs. a.client ∷ (zs ++ a.racers)) (ap (map (λ p. p.desk.pass)) is.1 ∙ shown_passes (workers (length ss) ps) ss os ready.lie) ∙ sym is.0

  -- those of the program are the first
  pub own_in : (m : ManagerShown) (ps : List PassShown) (ss : List Box) (os : List (Place X F)) (a : Scene) → AreReady behaviour registers pending m ps ss os → IsScene behaviour registers pending ps ss os a → own_passes a ≡ take (1 + length ss) ps
  own_in m [] ss os a ready is = let e : [] ≡ a.client ∷ (workers (length ss) [] ++ a.racers) = is.0 in absurd cc
  own_in m (p ∷ ps) ss os a ready is =
      let first : a.client ≡ p = (let e : p ∷ ps ≡ a.client ∷ (workers (length ss) (p ∷ ps) ++ a.racers) = is.0 in cc) in
      ap (λ zs. a.client ∷ zs) (ap (map (λ p. p.desk.pass)) is.1 ∙ shown_passes (workers (length ss) (p ∷ ps)) ss os ready.lie) ∙ (ap (λ z. z ∷ workers (length ss) (p ∷ ps)) first
      ∙ ap (λ k. take k (p ∷ ps)) (let e : suc (length ss) ≡ 1 + length ss = omega arith in e))

  -- nothing else is shown
  pub only_passes : (ps qs : List PassShown) (ss : List Box) (os : List (Place X F)) → AllZip Looks ps qs → AllZip OnlyPass (places_shown behaviour registers pending ps ss os) (places_shown behaviour registers pending qs ss os)
  only_passes [] [] ss os zip = tt
  only_passes [] (q ∷ qs) ss os zip = absurd zip
  only_passes (p ∷ ps) [] ss os zip = absurd zip
  only_passes (p ∷ ps) (q ∷ qs) [] os zip = tt
  only_passes (p ∷ ps) (q ∷ qs) (s ∷ ss) [] zip = tt
  only_passes (p ∷ ps) (q ∷ qs) (s ∷ ss) (o ∷ os) zip = (refl, only_passes ps qs ss os zip.1)

  -- there is a scene of passes that looked
  pub scene_on : (ps qs : List PassShown) (ss : List Box) (os : List (Place X F)) (a : Scene) → AllZip Looks ps qs → IsScene behaviour registers pending ps ss os a → (b : Scene) × IsScene behaviour registers pending qs ss os b
  scene_on [] qs ss os a zip is = let e : [] ≡ a.client ∷ (workers (length ss) [] ++ a.racers) = is.0 in absurd cc
  scene_on (p ∷ ps) [] ss os a zip is = absurd zip
  scene_on (p ∷ ps) (q ∷ qs) ss os a zip is = (
    record { client = q; places = places_shown behaviour registers pending (take (length ss) qs) ss os; racers = drop (length ss) qs },
    (ap (λ zs. q ∷ zs) (sym (take-append-drop (length ss) qs)), refl),
  )

-- all passes of a scene gathered
module _ {X : Type 0} {F : X → Type 0} (behaviour : DynBox X Global F → Behaviour) (registers : DynBox X Global F → List ℕ) (pending : DynBox X Global F → Option Pending) (m : ManagerShown) (keeper keeper' : KeeperShown)
    (ps qs : List PassShown) (ss : List (DynBox X Global F)) (os : List (Place X F)) (ready : AreReady behaviour registers pending m ps ss os) where
  module _ (steps : ℕ) (gathers : Gathers m.limits steps keeper keeper' ps qs) (all : AreAll keeper' qs) (given : keeper'.given ≡ keeper.given) (own : All (IsOf m) qs) where
    looked : AllZip Looks ps qs
    looked = zip_with (attended steps keeper'.seen) ps qs gathers.passes

    pub ready_looked : AreReady behaviour registers pending m qs ss os
    ready_looked = ready_on behaviour registers pending m ps qs ss os looked own ready

    pub numbers_looked : numbers qs ≡ numbers ps
    numbers_looked = same_numbers ps qs looked

    pub held_looked : (n : ℕ) → units_held n qs ≡ units_held n ps
    held_looked n = same_held n ps qs looked

    pub gathered_in : (a : Scene) → IsScene behaviour registers pending ps ss os a → (b : Scene) × GatheredIn steps m keeper keeper' a b × IsScene behaviour registers pending qs ss os b
    gathered_in a is =
        let b = scene_on behaviour registers pending ps qs ss os a looked is in
        let olds : ps ≡ passes_in a = sym (all_in behaviour registers pending m ps ss os a ready is) in
        let news : qs ≡ passes_in b.0 = sym (all_in behaviour registers pending m qs ss os b.0 ready_looked b.1) in (
          b.0,
          record {
            gathers = subst (λ zs. Gathers m.limits steps keeper keeper' zs (passes_in b.0)) olds (subst (λ zs. Gathers m.limits steps keeper keeper' ps zs) news gathers);
            all = subst (AreAll keeper') news all;
            given = given;
            own = subst (All (IsOf m)) news own;
            places = subst (λ zs. AllZip OnlyPass zs b.0.places) (sym is.1) (subst (λ zs. AllZip OnlyPass (places_shown behaviour registers pending (workers (length ss) ps) ss os) zs) (sym b.1.1)
                (only_passes behaviour registers pending (workers (length ss) ps) (workers (length ss) qs) ss os (zip_take Looks (length ss) (drop 1 ps) (drop 1 qs) (zip_drop Looks 1 ps qs looked))));
          },
          b.1,
        )

  module _ (gathers : Gathers m.limits (gather_steps m.limits (length ps)) keeper keeper' ps qs) (all : AreAll keeper' qs) (given : keeper'.given ≡ keeper.given) (own : All (IsOf m) qs) where
    abbrev steps : ℕ
    steps = gather_steps m.limits (length ps)

    pub ready_gathered : AreReady behaviour registers pending m qs ss os
    ready_gathered = ready_looked steps gathers all given own

    pub numbers_gathered : numbers qs ≡ numbers ps
    numbers_gathered = numbers_looked steps gathers all given own

    pub held_gathered : (n : ℕ) → units_held n qs ≡ units_held n ps
    held_gathered n = held_looked steps gathers all given own n

    pub gathered : (a : Scene) → IsScene behaviour registers pending ps ss os a → (b : Scene) × Gathered m keeper keeper' a b × IsScene behaviour registers pending qs ss os b
    gathered a is =
        let b = gathered_in steps gathers all given own a is in
        let olds : ps ≡ passes_in a = sym (all_in behaviour registers pending m ps ss os a ready is) in
        (b.0, subst (λ zs. GatheredIn (gather_steps m.limits (length zs)) m keeper keeper' a b.0) olds b.1, b.2)
