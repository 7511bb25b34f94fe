-- What a command is told: its line is that of its call's answer.
use Rattle.std.specs.Prelude.{◌≡◌, ℕ, ◌+◌, List, [], ◌∷◌, ◌++◌, All, Option, Some, None, length}
use Rattle.std.specs.Prelude.{IfSome, IsSome, map, slice_get, drop, take}
use Rattle.std.specs.Option.{option_map}
use Rattle.std.specs.declared.alloc.Global.{Global}
use Rattle.std.specs.declared.dyn_box.DynBox.{DynBox}
use Rattle.tp_model.specs.declared.types.Limits.{Limits}
use Rattle.tp_server.specs.Behaviour.{Behaviour}
use Rattle.tp_server.specs.Pending.{Pending}
use Rattle.tp_manager.specs.Shown.{IsOf, KeeperShown, ManagerShown, PassShown}
use Rattle.tp_desk.specs.Serving.{Leaves}
use Rattle.tp_workers.specs.Free.{IsFreePass}
use Rattle.tp_report.specs.Answer.{answer_text, line, named_text}
use Rattle.tp_report.specs.declared.answer.Answer.TheVariants as answer
use Rattle.tp_report.specs.declared.answer.ServerAnswer.{ServerAnswer}
use Rattle.tp_script.specs.Script.{HeadView, ServerView}
use Rattle.tp_script.specs.declared.script.ClientAct.{ClientAct}
use Rattle.tp_script.specs.declared.script.Command.{Command}
use Rattle.tp_script.specs.declared.script.Command.TheVariants as command
use Rattle.tp_commands.specs.declared.place.Place.{Place}
use Rattle.tp_script.specs.declared.script.DeskAct.{DeskAct}
use Rattle.tp_commands.specs.Acting.{DoesIn, IsSteadyPlace, PlaceShown, places_shown}
use Rattle.tp_commands.specs.Asked.{TellsClient}
use Rattle.tp_script.specs.declared.script.Race.{Race}
use Rattle.tp_commands.specs.Registers.{TellsBalance, register_sum}
use Rattle.tp_commands.specs.Places.{AllLie, workers}
use Rattle.tp_commands.specs.Scenes.{Gathered, OnlyClient, OnlyPlaces, Scene}
use Rattle.tp_commands.specs.Together.{Races}

-- the line tells what the client did
pub record ClientLine (l : Limits) (act : ClientAct) (old : Scene) (text : List ℕ)
    (new : Scene) : Type 0 where
  pub tells : TellsClient l act old.client text new.client
  pub others : OnlyClient old new

-- the line tells, with the server's name, what the desk at its place answered
pub record ServerLine (m : ManagerShown) (servers : List ServerView) (act : DeskAct) (at : ℕ)
    (old : Scene) (text : List ℕ) (new : Scene) : Type 0 where
  pub answer : ServerAnswer
  pub does : DoesIn m.limits act at old.places answer new.places
  pub server : ServerView
  pub named : slice_get servers at ≡ Some server
  pub text_is : text ≡ line (named_text server.name answer)
  pub others : OnlyPlaces old new

-- the line tells a register of the server, or that its desk was dropped, and nothing has changed
pub record BalanceLine (servers : List ServerView) (at k : ℕ)
    (old : Scene) (text : List ℕ) (new : Scene) : Type 0 where
  pub place : PlaceShown
  pub there : slice_get old.places at ≡ Some place
  pub server : ServerView
  pub named : slice_get servers at ≡ Some server
  pub tells : TellsBalance server.name k place.desk.registers place.is_dropped text
  pub same : new ≡ old

-- the line tells how many submits of a race were accepted
pub record RaceLine (m : ManagerShown) (rows : ℕ) (plan : Race)
    (old : Scene) (text : List ℕ) (new : Scene) : Type 0 where
  pub submitted : ℕ
  pub races : Races m rows plan old.racers submitted new.racers old.places new.places
  pub text_is : text ≡ line (answer_text (answer.Raced submitted))
  pub client : new.client ≡ old.client

-- the line of a command
abbrev pub TellsCommand : ManagerShown → HeadView → Command → Scene → List ℕ → Scene → Type 0
TellsCommand m h (command.Client act) = ClientLine m.limits act
TellsCommand m h (command.Desk at act) = ServerLine m h.servers act at
TellsCommand m h (command.Balance at k) = BalanceLine h.servers at k
TellsCommand m h (command.Sum k) = λ old text new.
    (text ≡ line (answer_text (answer.Sum k (register_sum k old.places)))) × (new ≡ old)

-- A race leads from one scene to another, and this is its line. It takes passes behind so many others, which
-- are as they were.
pub record Raced (m : ManagerShown) (h : HeadView) (plan : Race) (raced : ℕ) (old : Scene) (text : List ℕ)
    (new : Scene) : Type 0 where
  pub front : List PassShown
  pub here : List PassShown
  pub after : List PassShown
  pub back : List PassShown
  pub parts : old.racers ≡ front ++ (here ++ back)
  pub kept : new.racers ≡ front ++ (after ++ back)
  pub behind : length front ≡ raced
  pub needed : length here ≡ plan.clients + plan.killers
  pub tells : RaceLine m h.settings.rows plan (record old { racers = here }) text
      (record new { racers = after })
  -- at each place the registers are the fold of what the desk has committed since it began
  pub steady : All IsSteadyPlace new.places

-- and all have gathered after it
abbrev pub RacedAll : ManagerShown → HeadView → Race → ℕ → KeeperShown → Scene → List ℕ → KeeperShown → Scene
    → Type 0
RacedAll m h plan raced keeper old text keeper' new =
    (done : Scene) × Raced m h plan raced old text done × Gathered m keeper keeper' done new

-- of all passes the first is the client's, then comes one for each of so many servers, and the rest are those
-- of races
abbrev pub ArePasses : ℕ → Scene → List PassShown → Type 0
ArePasses servers s passes = passes ≡ s.client ∷ (workers servers passes ++ s.racers)

-- the passes of races: those after the client's and those of this many servers
abbrev pub after_servers : ℕ → List PassShown → List PassShown
after_servers servers passes = drop servers (drop 1 passes)

-- so many of them are free, behind so many others
abbrev pub RaceFree : ManagerShown → ℕ → ℕ → ℕ → List PassShown → Type 0
RaceFree m servers raced many passes =
    All (IsFreePass m) (take many (drop raced (after_servers servers passes)))

-- the units that they have open
abbrev pub units_held : ℕ → List PassShown → List (Option ℕ)
units_held servers passes = map (λ p. p.open_unit) (after_servers servers passes)

module _ {X : Type 0} {F : X → Type 0} (behaviour : DynBox X Global F → Behaviour)
    (registers : DynBox X Global F → List ℕ) (pending : DynBox X Global F → Option Pending) where
  -- the scene of these passes, of these servers, and of desks that lie aside
  abbrev pub IsScene : List PassShown → List (DynBox X Global F) → List (Place X F) → Scene → Type 0
  IsScene passes servers places s = ArePasses (length servers) s passes
      × (s.places ≡ places_shown behaviour registers pending (workers (length servers) passes) servers places)

  -- What holds of all passes between commands: the client's is free, and with the servers' passes their desks
  -- lie aside.
  pub record AreReady (m : ManagerShown) (passes : List PassShown) (servers : List (DynBox X Global F))
      (places : List (Place X F)) : Type 0 where
    pub own : All (IsOf m) passes
    pub client : All (IsFreePass m) (take 1 passes)
    pub lie : AllLie behaviour registers pending (workers (length servers) passes) servers places

module _ {X : Type 0} {F : X → Type 0} (registers : DynBox X Global F → List ℕ) where
  -- what the pass and the registers of the desk at a place were as it began
  abbrev pub began_of : Place X F → Option (PassShown × List ℕ)
  began_of place = option_map (λ a. (a.first_pass.value, registers a.first_server.value)) place.aside

module _ {X : Type 0} {F : X → Type 0} (behaviour : DynBox X Global F → Behaviour)
    (registers : DynBox X Global F → List ℕ) where
  -- The desks at these places have ended with these passes and servers: each server's registers are the fold
  -- of what its pass has committed since its desk began, and no unit is left open.
  abbrev pub AllLeftAt : List PlaceShown → List PassShown → List (DynBox X Global F) → Type 0
  AllLeftAt [] [] [] = Unit {0}
  AllLeftAt (o ∷ os) (p ∷ ps) (s ∷ ss) =
      IsSome o.began × IfSome o.began (λ began. Leaves (behaviour s) began.1 (registers s) began.0 p)
      × AllLeftAt os ps ss
  AllLeftAt os ps ss = ⊥
