-- All passes of a scene have gathered: they are together, and nothing else has changed.
use Rattle.std.proofs.Common.{ℕ, List, [], ◌∷◌, ◌++◌, All, length, map}
use Rattle.std.specs.List.{AllZip}
use Rattle.std.proofs.lemmas.List.Elements.{All-head, All-tail}
use Rattle.tp_model.specs.History.{In, here, there}
use Rattle.tp_model.proofs.Bridges.{in_none}
use Rattle.tp_manager.specs.Bounds.{gather_steps}
use Rattle.tp_manager.specs.Shown.{IsOf, KeeperShown, ManagerShown, PassShown}
use Rattle.tp_commands.specs.Acting.{PlaceShown}
use Rattle.tp_commands.specs.Scenes.{Gathered, GatheredIn, OnlyPass, Scene, passes_in}
use Rattle.tp_rollover.specs.Thread.{AreTogether, Stays}
use Rattle.tp_rollover.proofs.AloneGatherings.{gathered_together}
use Rattle.tp_exact.specs.Stands.{SceneOnlyLooks, OnlyLooksAt}

pub all_at : {A : Type 0} (P : A → Type 0) (xs : List A) (x : A) → All P xs → In x xs → P x
all_at P [] x all q = absurd (in_none q)
all_at P (y ∷ xs) x all here = All-head P y xs all
all_at P (y ∷ xs) x all (there q) = all_at P xs x (All-tail P y xs all) q

-- the passes of places, and those of races
pub looks_apart : (ps qs : List PlaceShown) (rs ts : List PassShown) → AllZip OnlyPass ps qs → AllZip Stays (map (λ p. p.desk.pass) ps ++ rs) (map (λ p. p.desk.pass) qs ++ ts) → AllZip OnlyLooksAt ps qs × AllZip Stays rs ts
looks_apart [] [] rs ts same looks = (tt, looks)
looks_apart [] (q ∷ qs) rs ts same looks = absurd same
looks_apart (p ∷ ps) [] rs ts same looks = absurd same
looks_apart (p ∷ ps) (q ∷ qs) rs ts same looks =
    let others = looks_apart ps qs rs ts same.1 looks.1 in
    ((record { pass = looks.0; same = same.0 }, others.0), others.1)

-- in however many steps
module _ (steps : ℕ) (m : ManagerShown) (keeper keeper' : KeeperShown) (old new : Scene) (g : GatheredIn steps m keeper keeper' old new) where
  both : AreTogether m.limits keeper' (passes_in new) keeper'.seen × AllZip Stays (passes_in old) (passes_in new)
  both = gathered_together m.limits steps keeper keeper' (passes_in old) (passes_in new) g.gathers g.all g.given (λ p q. (all_at (IsOf m) (passes_in new) p g.own q).1)

  pub together_in : AreTogether m.limits keeper' (passes_in new) keeper'.seen
  together_in = both.0

  pub gathers_in : AllZip Stays (passes_in old) (passes_in new)
  gathers_in = both.1

module _ (m : ManagerShown) (keeper keeper' : KeeperShown) (old new : Scene) (g : Gathered m keeper keeper' old new) where
  pub together : AreTogether m.limits keeper' (passes_in new) keeper'.seen
  together = together_in (gather_steps m.limits (length (passes_in old))) m keeper keeper' old new g

  pub each_stays : AllZip Stays (passes_in old) (passes_in new)
  each_stays = gathers_in (gather_steps m.limits (length (passes_in old))) m keeper keeper' old new g

  pub looks : SceneOnlyLooks old new
  looks =
      let apart = looks_apart old.places new.places old.racers new.racers g.places each_stays.1 in
      record { client = each_stays.0; places = apart.0; racers = apart.1 }
