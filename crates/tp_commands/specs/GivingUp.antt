-- After the last command the desks give up what they have in hand, one after another.
use Rattle.std.specs.Prelude.{◌≡◌, ℕ, zero, suc, length}
use Rattle.tp_manager.specs.Shown.{KeeperShown, ManagerShown}
use Rattle.tp_commands.specs.Acting.{GivesUpIn}
use Rattle.tp_commands.specs.Scenes.{Gathered, OnlyPlaces, Scene}

-- the desk at a place gave up what it had in hand, and then all gathered
pub record DeskGivesUp (m : ManagerShown) (at : ℕ) (keeper : KeeperShown) (old : Scene)
    (keeper' : KeeperShown)
    (new : Scene) : Type 0 where
  pub done : Scene
  pub gives_up : GivesUpIn m.limits at old.places done.places
  pub others : OnlyPlaces old done
  pub gathered : Gathered m keeper keeper' done new

-- so did the desks before a place, one after another
abbrev pub GiveUpBelow : ManagerShown → ℕ → KeeperShown → Scene → KeeperShown → Scene → Type 0
GiveUpBelow m zero keeper old keeper' new = (keeper' ≡ keeper) × (new ≡ old)
GiveUpBelow m (suc at) keeper old keeper' new = (kept : KeeperShown) × (between : Scene)
    × GiveUpBelow m at keeper old kept between × DeskGivesUp m at kept between keeper' new

-- all of them
abbrev pub GiveUpAll : ManagerShown → KeeperShown → Scene → KeeperShown → Scene → Type 0
GiveUpAll m keeper old = GiveUpBelow m (length old.places) keeper old
