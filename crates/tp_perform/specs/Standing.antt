-- What the acts of a script are told.
use Rattle.std.specs.Prelude.{◌≡◌, ◌+◌, ◌≤◌, ◌⊎◌, ℕ, List, All, Option, None, length, map}
use Rattle.std.specs.declared.alloc.Global.{Global}
use Rattle.std.specs.declared.dyn_box.DynBox.{DynBox}
use Rattle.tp_server.specs.Behaviour.{Behaviour}
use Rattle.tp_server.specs.Pending.{Pending}
use Rattle.tp_server.specs.declared.order.Order.{Order}
use Rattle.tp_server.specs.declared.order.Order.TheVariants.{InTurn, LeastFirst}
use Rattle.tp_manager.specs.Shown.{KeeperShown, ManagerShown}
use Rattle.tp_rollover.specs.Managed.{IsManaged}
use Rattle.tp_rollover.specs.declared.moved.Moved.{Moved}
use Rattle.tp_report.specs.Answer.{line, rolled_text}
use Rattle.tp_script.specs.Fault.{◌<>◌}
use Rattle.tp_script.specs.Script.{HeadView, head_view}
use Rattle.tp_script.specs.declared.head.Act.{Act}
use Rattle.tp_script.specs.declared.head.Act.TheVariants as acts
use Rattle.tp_script.specs.declared.head.Head.{Head}
use Rattle.tp_script.specs.declared.script.Command.{Command}
use Rattle.tp_script.specs.declared.script.Race.{Race}
use Rattle.tp_commands.specs.Acting.{IsSteadyPlace}
use Rattle.tp_commands.specs.Drains.{Drains}
use Rattle.tp_commands.specs.Rollover.{IsUnrolled, RollRefused, RolledOver, renamed}
use Rattle.tp_commands.specs.Scenes.{Gathered, Scene, Stand}
use Rattle.tp_commands.specs.Told.{AreReady, IsScene, RacedAll, TellsCommand, units_held}
use Rattle.tp_perform.specs.Roots.{roots_of, roots_text}
use Rattle.tp_perform.specs.declared.held.Held.{Held}

-- all passes have gathered, and nothing else was done
pub record Gathers (old new : Stand) : Type 0 where
  pub manager : new.manager ≡ old.manager
  pub gathered : Gathered old.manager old.keeper new.keeper old.scene new.scene

-- ---- commands, races and drains

-- the command was done, and this is its line
pub record CommandDid (h : HeadView) (c : Command) (old : Stand) (text : List ℕ) (new : Stand) : Type 0 where
  pub tells : TellsCommand old.manager h c old.scene text new.scene
  -- at each place the registers are the fold of what the desk has committed since it began
  pub steady : All IsSteadyPlace new.scene.places
  pub manager : new.manager ≡ old.manager
  pub keeper : new.keeper ≡ old.keeper

-- so it was, and then all gathered
pub record CommandTold (h : HeadView) (c : Command) (old : Stand) (text : List ℕ) (new : Stand)
    : Type 0 where
  pub done : Stand
  pub did : CommandDid h c old text done
  pub gathers : Gathers done new

-- what was done to the scene under the same manager
pub record SceneTold (Did : ManagerShown → KeeperShown → Scene → KeeperShown → Scene → Type 0)
    (old new : Stand) : Type 0 where
  pub did : Did old.manager old.keeper old.scene new.keeper new.scene
  pub manager : new.manager ≡ old.manager

-- the line is that of a drain, whose claims are in this order
abbrev pub DrainTold : Order → Stand → List ℕ → Stand → Type 0
DrainTold order old text new =
    SceneTold (λ m keeper scene keeper' scene'. Drains order m keeper scene text keeper' scene') old new

-- the line is that of a race, which takes passes behind so many others
abbrev pub RaceTold : HeadView → Race → ℕ → Stand → List ℕ → Stand → Type 0
RaceTold h plan raced old text new =
    SceneTold (λ m keeper scene keeper' scene'. RacedAll m h plan raced keeper scene text keeper' scene') old new

-- ---- rollovers

-- What was alive has gone on in another manager, and the line tells what each element is called, and the
-- roots of those whose root wasn't carried over.
pub record RolledAll (old : Stand) (text : List ℕ) (new : Stand) : Type 0 where
  pub moved : List Moved
  pub rolled : RolledOver old moved new
  pub text_is : text ≡ line (rolled_text (map renamed moved) <> roots_text (roots_of moved))

-- so it was, or it was refused, and nothing has changed
abbrev pub RolloverTold : Stand → List ℕ → Stand → Type 0
RolloverTold old text new =
    RolledAll old text new ⊎ RollRefused (IsUnrolled old.manager.limits) old text new

-- ---- all acts

-- the line of what a script asks for: a race is by the passes behind those of the races before it, which took
-- so many
abbrev pub ActTold : Head → ℕ → Act → Stand → List ℕ → Stand → Type 0
ActTold head raced (acts.Command c) old text new = CommandTold (head_view head) c old text new
ActTold head raced (acts.Race plan) old text new = RaceTold (head_view head) plan raced old text new
ActTold head raced acts.Drain old text new = DrainTold LeastFirst old text new
ActTold head raced acts.DrainNext old text new = DrainTold InTurn old text new
ActTold head raced acts.Rollover old text new = RolloverTold old text new

-- ---- what is held in memory

module _ {X : Type 0} {F : X → Type 0} (behaviour : DynBox X Global F → Behaviour)
    (registers : DynBox X Global F → List ℕ) (pending : DynBox X Global F → Option Pending) where
  -- What holds between two acts: of all passes the client's is free, with the servers' their desks lie aside,
  -- and those of races are free.
  pub record IsHeld (head : Head) (h : Held X F) : Type 0 where
    pub managed : IsManaged h.managed
    pub ready : AreReady behaviour registers pending h.managed.manager h.managed.passes.items h.servers.items
        h.places.items
    pub each_server : length h.servers.items ≡ length head.servers.items
    pub enough : 1 + length h.servers.items ≤ length h.managed.passes.items
    pub racers : All (λ unit. unit ≡ None) (units_held (length h.servers.items) h.managed.passes.items)

  -- this is what is there
  pub record IsStand (h : Held X F) (s : Stand) : Type 0 where
    pub manager : s.manager ≡ h.managed.manager
    pub keeper : s.keeper ≡ h.managed.keeper
    pub scene : IsScene behaviour registers pending h.managed.passes.items h.servers.items h.places.items
        s.scene

  -- what is there before and after
  pub record Leads (R : Stand → Stand → Type 0) (old new : Held X F) : Type 0 where
    pub before : Stand
    pub after : Stand
    pub was : IsStand old before
    pub leads : R before after
    pub is : IsStand new after

  -- what was there before, and some time after
  pub record Begins (R : Stand → Stand → Type 0) (old : Held X F) : Type 0 where
    pub before : Stand
    pub after : Stand
    pub was : IsStand old before
    pub leads : R before after
