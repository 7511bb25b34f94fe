-- Desks that give up what they have in hand, one after another.
use Rattle.std.proofs.Common.{◌≡◌, ℕ, suc, ◌+◌, ◌≤◌, List, Option, length, refl, sym, ◌∙◌, subst, arith}
use Rattle.std.specs.declared.alloc.Global.{Global}
use Rattle.std.specs.declared.dyn_box.DynBox.{DynBox}
use Rattle.tp_server.specs.Behaviour.{Behaviour}
use Rattle.tp_server.specs.Pending.{Pending}
use Rattle.tp_manager.specs.Shown.{KeeperShown, ManagerShown, PassShown}
use Rattle.tp_commands.specs.declared.place.Place.{Place}
use Rattle.tp_commands.specs.GivingUp.{GiveUpAll, GiveUpBelow, DeskGivesUp}
use Rattle.tp_commands.specs.Scenes.{Scene}
use Rattle.tp_commands.specs.Told.{AreReady, IsScene}
use Rattle.tp_commands.proofs.Rounds.{places_long}
use Rattle.tp_commands.proofs.Slices.{one_scene, scene_there}

module _ {X : Type 0} {F : X → Type 0} (behaviour : DynBox X Global F → Behaviour) (registers : DynBox X Global F → List ℕ) (pending : DynBox X Global F → Option Pending) where
  abbrev Box : Type 0
  Box = DynBox X Global F

  abbrev Is : List PassShown → List Box → List (Place X F) → Scene → Type 0
  Is ps ss os s = IsScene behaviour registers pending ps ss os s

  -- so far, between two scenes
  abbrev pub GivenUp : ManagerShown → ℕ → KeeperShown → List PassShown → List Box → List (Place X F) → KeeperShown → List PassShown → List Box → List (Place X F) → Type 0
  GivenUp m n keeper ps ss os keeper' qs ts ns =
      (old : Scene) × (new : Scene) × Is ps ss os old × GiveUpBelow m n keeper old keeper' new × Is qs ts ns new

  abbrev pub GivenUpOne : ManagerShown → ℕ → KeeperShown → List PassShown → List Box → List (Place X F) → KeeperShown → List PassShown → List Box → List (Place X F) → Type 0
  GivenUpOne m n keeper ps ss os keeper' qs ts ns =
      (old : Scene) × (new : Scene) × Is ps ss os old × DeskGivesUp m n keeper old keeper' new × Is qs ts ns new

  -- before the first
  pub given_none : (m : ManagerShown) (keeper : KeeperShown) (ps : List PassShown) (ss : List Box) (os : List (Place X F)) → 1 ≤ length ps → GivenUp m 0 keeper ps ss os keeper ps ss os
  given_none m keeper ps ss os some =
      let a = scene_there behaviour registers pending ps ss os some in
      (a.0, a.0, a.1, (refl, refl), a.1)

  -- one more
  pub given_more : (m : ManagerShown) (n : ℕ) (keeper kept keeper' : KeeperShown) (ps qs rs : List PassShown) (ss ts us : List Box) (os ns vs : List (Place X F))
      → GivenUp m n keeper ps ss os kept qs ts ns → GivenUpOne m n kept qs ts ns keeper' rs us vs → GivenUp m (n + 1) keeper ps ss os keeper' rs us vs
  given_more m n keeper kept keeper' ps qs rs ss ts us os ns vs t o =
      let same : o.0 ≡ t.1 = one_scene behaviour registers pending qs ts ns o.0 t.1 o.2 t.4 in
      let one : DeskGivesUp m n kept t.1 keeper' o.1 = subst (λ z. DeskGivesUp m n kept z keeper' o.1) same o.3 in
      let all : GiveUpBelow m (suc n) keeper t.0 keeper' o.1 = (kept, t.1, t.3, one) in
      let next : suc n ≡ n + 1 = omega arith in
      (t.0, o.1, t.2, subst (λ k. GiveUpBelow m k keeper t.0 keeper' o.1) next all, o.4)

  -- all of them
  pub given_all : (m : ManagerShown) (n : ℕ) (keeper keeper' : KeeperShown) (ps qs : List PassShown) (ss ts : List Box) (os ns : List (Place X F)) → AreReady behaviour registers pending m ps ss os → n ≡ length os
      → GivenUp m n keeper ps ss os keeper' qs ts ns → (old : Scene) × (new : Scene) × Is ps ss os old × GiveUpAll m keeper old keeper' new × Is qs ts ns new
  given_all m n keeper keeper' ps qs ss ts os ns ready all t =
      let long : n ≡ length t.0.places = all ∙ sym (places_long behaviour registers pending m ps ss os t.0 ready t.2) in
      (t.0, t.1, t.2, subst (λ k. GiveUpBelow m k keeper t.0 keeper' t.1) long t.3, t.4)
