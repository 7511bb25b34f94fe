-- How what is there while a script is performed stands to the computed state.
use Rattle.std.specs.Prelude.{◌≡◌, List, None, IsSome, is_some, if◌then◌else◌}
use Rattle.std.specs.List.{AllZip}
use Rattle.tp_model.specs.declared.types.Limits.{Limits}
use Rattle.tp_model.specs.declared.event.Event.{Event}
use Rattle.tp_model.specs.Steps.{IsServerStage}
use Rattle.tp_server.specs.Behaviour.{behaviour_of}
use Rattle.tp_manager.specs.Shown.{KeeperShown}
use Rattle.tp_script.specs.Script.{ServerView}
use Rattle.tp_commands.specs.Acting.{DeskShown, PlaceShown}
use Rattle.tp_commands.specs.Scenes.{Scene, passes_in}
use Rattle.tp_reference.specs.declared.plain_desk.PlainDesk.{PlainDesk}
use Rattle.tp_reference.specs.PlainReport.{ReportState}
use Rattle.tp_rollover.specs.Thread.{AreTogether, Stays, thread_of}

-- a computed desk is this one: it has the same registers and the same work in hand, prepared or not
pub record IsForDesk (x : DeskShown) (d : PlainDesk) : Type 0 where
  pub registers : d.registers ≡ x.registers
  pub work : (if is_some x.pass.open_unit then d.taken else None) ≡ x.work
  pub open_is : is_some x.pass.open_unit ≡ is_some x.work
  pub prepared : IsSome x.work → d.is_prepared ≡ is_some x.pending

-- and the one at this place
pub record IsFor (p : PlaceShown) (d : PlainDesk) : Type 0 where
  pub desk : IsForDesk p.desk d
  pub dropped : d.is_dropped ≡ p.is_dropped

-- the server at this place does what the recipe of the script's server says, and may take elements of its
-- stage
pub record IsServedBy (p : PlaceShown) (server : ServerView) : Type 0 where
  pub behaviour : p.desk.behaviour ≡ behaviour_of server.recipe
  pub stage : IsServerStage server.recipe.stage

-- all passes are together, they and the desks are those of the computed state, and the desks are of these
-- servers
pub record StandsAsComputed (servers : List ServerView) (l : Limits) (keeper : KeeperShown) (h : List Event)
    (scene : Scene)
    (s : ReportState) : Type 0 where
  pub together : AreTogether l keeper (passes_in scene) h
  pub manager : s.manager ≡ thread_of l (passes_in scene) h
  pub desks : AllZip IsFor scene.places s.desks
  pub served : AllZip IsServedBy scene.places servers

-- nothing has changed at a place, but that its pass has looked
pub record OnlyLooksAt (old new : PlaceShown) : Type 0 where
  pub pass : Stays old.desk.pass new.desk.pass
  pub same : new ≡ record old { desk = record old.desk { pass = new.desk.pass } }

-- nothing has changed in a scene, but that its passes have looked
pub record SceneOnlyLooks (old new : Scene) : Type 0 where
  pub client : Stays old.client new.client
  pub places : AllZip OnlyLooksAt old.places new.places
  pub racers : AllZip Stays old.racers new.racers
