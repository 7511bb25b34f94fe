-- A drain: the free desks take turns in rounds, until a whole round claims nothing.
use Rattle.std.specs.Prelude.{◌≡◌, ◌⊎◌, ℕ, zero, suc, Bool, true, false, ◌||◌, List, All, length}
use Rattle.tp_manager.specs.Shown.{KeeperShown, ManagerShown}
use Rattle.tp_server.specs.declared.order.Order.{Order}
use Rattle.tp_server.specs.declared.turned.Turned.{Turned}
use Rattle.tp_server.specs.declared.turned.Turned.TheVariants as turneds
use Rattle.tp_report.specs.Answer.{answer_text, line}
use Rattle.tp_report.specs.declared.answer.Answer.TheVariants as answer
use Rattle.tp_commands.specs.Acting.{IsSteadyPlace, StaysIn, TurnsIn}
use Rattle.tp_commands.specs.Scenes.{Gathered, OnlyPlaces, Scene}

-- whether a turn claimed an element
abbrev pub turn_claimed : Turned → Bool
turn_claimed turneds.Idle = false
turn_claimed turneds.NoUnit = false
turn_claimed other = true

-- the free desk at a place took a turn, and then all gathered
pub record TurnTaken (order : Order) (m : ManagerShown) (at : ℕ) (keeper : KeeperShown) (old : Scene)
    (claimed : Bool) (keeper' : KeeperShown) (new : Scene) : Type 0 where
  pub turned : Turned
  pub claimed_is : claimed ≡ turn_claimed turned
  pub done : Scene
  pub turns : TurnsIn order m.limits at old.places turned done.places
  pub others : OnlyPlaces old done
  pub gathered : Gathered m keeper keeper' done new

-- the desk at a place isn't free, and nothing was done
pub record NoTurn (at : ℕ) (keeper : KeeperShown) (old : Scene) (claimed : Bool) (keeper' : KeeperShown)
    (new : Scene) : Type 0 where
  pub busy : StaysIn at old.places new.places
  pub claimed_is : claimed ≡ false
  pub kept : keeper' ≡ keeper
  pub same : new ≡ old

-- one or the other
abbrev pub Turn : Order → ManagerShown → ℕ → KeeperShown → Scene → Bool → KeeperShown → Scene → Type 0
Turn order m at keeper old claimed keeper' new =
    TurnTaken order m at keeper old claimed keeper' new ⊎ NoTurn at keeper old claimed keeper' new

-- the desks in front of a place had their turns, one after another; and whether any of them claimed an
-- element
abbrev pub TurnsBelow : Order → ManagerShown → ℕ → KeeperShown → Scene → Bool → KeeperShown → Scene → Type 0
TurnsBelow order m zero keeper old claimed keeper' new = (claimed ≡ false) × (keeper' ≡ keeper) × (new ≡ old)
TurnsBelow order m (suc at) keeper old claimed keeper' new =
    (kept : KeeperShown) × (between : Scene) × (before : Bool) × (turn : Bool)
    × TurnsBelow order m at keeper old before kept between
    × Turn order m at kept between turn keeper' new
    × (claimed ≡ before || turn)

-- a round: each free desk took one turn, in the order of the servers
abbrev pub Round : Order → ManagerShown → KeeperShown → Scene → Bool → KeeperShown → Scene → Type 0
Round order m keeper old = TurnsBelow order m (length old.places) keeper old

-- n rounds, each of which claimed an element
abbrev pub RoundsClaim : Order → ManagerShown → ℕ → KeeperShown → Scene → KeeperShown → Scene → Type 0
RoundsClaim order m zero keeper old keeper' new = (keeper' ≡ keeper) × (new ≡ old)
RoundsClaim order m (suc n) keeper old keeper' new = (kept : KeeperShown) × (between : Scene)
    × RoundsClaim order m n keeper old kept between × Round order m kept between true keeper' new

-- rounds of turns, whose claims are in this order, until one claims nothing; and the line that tells of them
pub record Drains (order : Order) (m : ManagerShown) (keeper : KeeperShown) (old : Scene) (text : List ℕ)
    (keeper' : KeeperShown) (new : Scene) : Type 0 where
  pub rounds : ℕ
  pub kept : KeeperShown
  pub between : Scene
  pub claiming : RoundsClaim order m rounds keeper old kept between
  pub last : Round order m kept between false keeper' new
  pub text_is : text ≡ line (answer_text answer.Drained)
  -- at each place the registers are the fold of what the desk has committed since it began
  pub steady : All IsSteadyPlace new.places
