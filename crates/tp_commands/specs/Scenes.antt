-- What is there between two commands, and that all passes gather.
use Rattle.std.specs.Prelude.{◌≡◌, ℕ, false, List, ◌∷◌, ◌++◌, All, Option, Some, None, length, map}
use Rattle.std.specs.List.{AllZip}
use Rattle.std.specs.declared.alloc.Global.{Global}
use Rattle.std.specs.declared.dyn_box.DynBox.{DynBox}
use Rattle.tp_server.specs.Behaviour.{Behaviour}
use Rattle.tp_server.specs.Pending.{Pending}
use Rattle.tp_manager.specs.Accounts.{AreAll, Gathers}
use Rattle.tp_manager.specs.Bounds.{gather_steps}
use Rattle.tp_manager.specs.Shown.{IsOf, KeeperShown, ManagerShown, PassShown}
use Rattle.tp_commands.specs.declared.place.Place.{Place}
use Rattle.tp_commands.specs.Acting.{PlaceShown, places_shown}

-- what is there: the client's pass, the places of desks, and the passes of races
pub record Scene : Type 0 where
  pub client : PassShown
  pub places : List PlaceShown
  pub racers : List PassShown

-- all passes of a scene
abbrev pub passes_in : Scene → List PassShown
passes_in s = s.client ∷ (map (λ p. p.desk.pass) s.places ++ s.racers)

-- those of the program: the client's and the desks'
abbrev pub own_passes : Scene → List PassShown
own_passes s = s.client ∷ map (λ p. p.desk.pass) s.places

module _ {X : Type 0} {F : X → Type 0} (behaviour : DynBox X Global F → Behaviour)
    (registers : DynBox X Global F → List ℕ) (pending : DynBox X Global F → Option Pending) where
  abbrev pub scene : PassShown → List PassShown → List (DynBox X Global F) → List (Place X F) → List PassShown
      → Scene
  scene client passes servers places racers = record {
    client = client;
    places = places_shown behaviour registers pending passes servers places;
    racers = racers;
  }

-- the desk begins there
pub record IsNewPlace (p : PlaceShown) : Type 0 where
  pub began : p.began ≡ Some (p.desk.pass, p.desk.registers)
  pub work : p.desk.work ≡ None
  pub kept : p.is_dropped ≡ false

-- what stands between two commands
pub record Stand : Type 0 where
  pub manager : ManagerShown
  pub keeper : KeeperShown
  pub scene : Scene

-- nothing but the client's pass has changed
pub record OnlyClient (old new : Scene) : Type 0 where
  pub places : new.places ≡ old.places
  pub racers : new.racers ≡ old.racers

-- nothing but the places have changed
pub record OnlyPlaces (old new : Scene) : Type 0 where
  pub client : new.client ≡ old.client
  pub racers : new.racers ≡ old.racers

-- nothing has changed at a place but what its pass shows
abbrev pub OnlyPass : PlaceShown → PlaceShown → Type 0
OnlyPass old new = new ≡ record old { desk = record old.desk { pass = new.desk.pass } }

-- all passes, of which there are no others, have gathered in at most n steps, and nothing else has changed
pub record GatheredIn (n : ℕ) (m : ManagerShown) (keeper keeper' : KeeperShown) (old new : Scene)
    : Type 0 where
  pub gathers : Gathers m.limits n keeper keeper' (passes_in old) (passes_in new)
  pub all : AreAll keeper' (passes_in new)
  pub given : keeper'.given ≡ keeper.given
  pub own : All (IsOf m) (passes_in new)
  pub places : AllZip OnlyPass old.places new.places

abbrev pub Gathered : ManagerShown → KeeperShown → KeeperShown → Scene → Scene → Type 0
Gathered m keeper keeper' old new =
    GatheredIn (gather_steps m.limits (length (passes_in old))) m keeper keeper' old new
