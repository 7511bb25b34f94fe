-- What desks began with, and what they leave.
use Rattle.std.proofs.Common.{◌≡◌, List, [], ◌∷◌, ℕ, Option, Some, None, IfSome, IsSome, refl, sym, ◌∙◌, ap, subst, length, map}
use Rattle.std.specs.Option.{option_map}
use Rattle.std.specs.declared.alloc.Global.{Global}
use Rattle.std.specs.declared.dyn_box.DynBox.{DynBox}
use Rattle.tp_server.specs.Behaviour.{Behaviour}
use Rattle.tp_server.specs.Pending.{Pending}
use Rattle.tp_manager.specs.Shown.{PassShown}
use Rattle.tp_desk.specs.declared.aside.Aside.{Aside}
use Rattle.tp_desk.specs.Serving.{Leaves}
use Rattle.tp_commands.specs.declared.place.Place.{Place}
use Rattle.tp_commands.specs.Acting.{PlaceShown, places_shown}
use Rattle.tp_commands.specs.Places.{AllLeft, AllLie, IsLeft, first_of, firsts, workers}
use Rattle.tp_commands.specs.Scenes.{Scene}
use Rattle.tp_commands.specs.Told.{AllLeftAt, AreReady, IsScene, began_of}
use Rattle.tp_manager.specs.Shown.{ManagerShown}

module _ {X : Type 0} {F : X → Type 0} (behaviour : DynBox X Global F → Behaviour) (registers : DynBox X Global F → List ℕ) (pending : DynBox X Global F → Option Pending) where
  abbrev Box : Type 0
  Box = DynBox X Global F

  heads_tails : {A : Type 0} (x y : A) (xs ys : List A) → x ∷ xs ≡ y ∷ ys → (x ≡ y) × (xs ≡ ys)
  heads_tails x y xs ys e = (cc, cc)

  abbrev both : PassShown × Box → PassShown × List ℕ
  both x = (x.0, registers x.1)

  began_is : (o : Place X F) → began_of registers o ≡ option_map {T = PassShown × Box} {U = PassShown × List ℕ} both (first_of o)
  began_is o = go o.aside
    where
      go : (a : Option (Aside X F)) → option_map {U = PassShown × List ℕ} (λ (x : Aside X F). (x.first_pass.value, registers x.first_server.value)) a
          ≡ option_map {T = PassShown × Box} {U = PassShown × List ℕ} both (option_map {U = PassShown × Box} (λ (x : Aside X F). (x.first_pass.value, x.first_server.value)) a)
      go None = refl
      go (Some a) = refl

  pub began_same : (os ns : List (Place X F)) → firsts ns ≡ firsts os → map (began_of registers) ns ≡ map (began_of registers) os
  began_same [] [] same = refl
  began_same [] (n ∷ ns) same = absurd cc
  began_same (o ∷ os) [] same = absurd cc
  began_same (o ∷ os) (n ∷ ns) same =
      let parts = heads_tails (first_of n) (first_of o) (firsts ns) (firsts os) same in
      let one : began_of registers n ≡ began_of registers o = began_is n ∙ (ap (option_map {T = PassShown × Box} {U = PassShown × List ℕ} both) parts.0 ∙ sym (began_is o)) in
      ap (λ (z : Option (PassShown × List ℕ)). z ∷ map (began_of registers) ns) one ∙ ap (λ (zs : List (Option (PassShown × List ℕ))). began_of registers o ∷ zs) (began_same os ns parts.1)

  shown_began : (ps : List PassShown) (ss : List Box) (os : List (Place X F)) → AllLie behaviour registers pending ps ss os
      → map (λ (p : PlaceShown). p.began) (places_shown behaviour registers pending ps ss os) ≡ map (began_of registers) os
  shown_began [] [] [] lie = refl
  shown_began [] [] (o ∷ os) lie = absurd lie
  shown_began [] (s ∷ ss) os lie = absurd lie
  shown_began (p ∷ ps) [] os lie = absurd lie
  shown_began (p ∷ ps) (s ∷ ss) [] lie = absurd lie
  shown_began (p ∷ ps) (s ∷ ss) (o ∷ os) lie = ap (λ (zs : List (Option (PassShown × List ℕ))). began_of registers o ∷ zs) (shown_began ps ss os lie.1)

  -- what the desks of a scene began with
  pub scene_began : (m : ManagerShown) (ps : List PassShown) (ss : List Box) (os : List (Place X F)) (a : Scene) → AreReady behaviour registers pending m ps ss os → IsScene behaviour registers pending ps ss os a
      → map (λ (p : PlaceShown). p.began) a.places ≡ map (began_of registers) os
  scene_began m ps ss os a ready is = ap (map (λ (p : PlaceShown). p.began)) is.1 ∙ shown_began (workers (length ss) ps) ss os ready.lie

  left_one : (x : Option (PassShown × List ℕ)) (a : Option (Aside X F)) (q : PassShown) (t : Box)
      → x ≡ option_map {U = PassShown × List ℕ} (λ (x : Aside X F). (x.first_pass.value, registers x.first_server.value)) a
      → IsLeft behaviour registers (option_map {U = PassShown × Box} (λ (x : Aside X F). (x.first_pass.value, x.first_server.value)) a) q t
      → IsSome x × IfSome x (λ began. Leaves (behaviour t) began.1 (registers t) began.0 q)
  left_one x None q t is left = absurd left
  left_one x (Some a) q t is left =
      subst (λ (o : Option (PassShown × List ℕ)). IsSome o × IfSome o (λ began. Leaves (behaviour t) began.1 (registers t) began.0 q)) (sym is) (refl, left)

  pub left_at : (xs : List PlaceShown) (os : List (Place X F)) (qs : List PassShown) (ts : List Box) → map (λ (p : PlaceShown). p.began) xs ≡ map (began_of registers) os
      → AllLeft behaviour registers (firsts os) qs ts → AllLeftAt behaviour registers xs qs ts
  left_at [] [] [] [] is left = tt
  left_at [] [] [] (t ∷ ts) is left = absurd left
  left_at [] [] (q ∷ qs) ts is left = absurd left
  left_at [] (o ∷ os) qs ts is left = absurd cc
  left_at (x ∷ xs) [] qs ts is left = absurd cc
  left_at (x ∷ xs) (o ∷ os) [] ts is left = absurd left
  left_at (x ∷ xs) (o ∷ os) (q ∷ qs) [] is left = absurd left
  left_at (x ∷ xs) (o ∷ os) (q ∷ qs) (t ∷ ts) is left =
      let parts = heads_tails x.began (began_of registers o) (map (λ (p : PlaceShown). p.began) xs) (map (began_of registers) os) is in
      let one = left_one x.began o.aside q t parts.0 left.0 in
      (one.0, one.1, left_at xs os qs ts parts.1 left.1)
