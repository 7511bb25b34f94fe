-- What descriptions are fit to be made alive: those of elements that one manager, with limits l, can have
-- alive at once, and that another one, with limits k, can have too.
use Rattle.std.specs.Prelude.{◌≢◌, ◌<◌, All, List, length}
use Rattle.tp_model.specs.declared.types.Limits.{Limits}
use Rattle.tp_model.specs.History.{In}
use Rattle.tp_model.specs.Steps.{IsKillable, IsStage, rows_of}
use Rattle.tp_rollover.specs.Bounds.{IsWithinLimits}
use Rattle.tp_rollover.specs.declared.births.Family.{Family}
use Rattle.tp_rollover.specs.declared.stops.Stop.{Stop}
use Rattle.tp_rollover.specs.declared.stops.Stop.TheVariants.{NoMemory, Full, Unequal}
use Rattle.tp_rollover.specs.declared.survivors.Survivor.{Survivor}

-- It and its root have rows, its stage is one of those that outputs have, it waits or is parked, or did so
-- before it was held, and it can have had its attempts and rounds.
pub record IsFit (l k : Limits) (s : Survivor) : Type 0 where
  pub id : s.id < rows_of l
  pub root : s.root < rows_of l
  pub stage : IsStage s.stage
  pub alive : IsKillable s.status
  pub within : IsWithinLimits k s

-- what isn't its own root is no other one's
abbrev pub AreApart : List Survivor → Type 0
AreApart survivors = (s t : Survivor) → In s survivors → In t survivors → s.id ≢ s.root → t.root ≢ s.id

-- all of these are
pub record AreFit (l k : Limits) (survivors : List Survivor) : Type 0 where
  pub each : All (IsFit l k) survivors
  pub apart : AreApart survivors

-- its family has a place in this table, and its stage is one of those that outputs have
abbrev pub HasFamilyPlace : List Family → Survivor → Type 0
HasFamilyPlace families s = (s.root < length families) × IsStage s.stage

-- births of these haven't begun: for want of memory, or since these aren't fit
abbrev pub StopsUnfit : Limits → Limits → List Survivor → Stop → Type 0
StopsUnfit l k survivors NoMemory = Unit {0}
StopsUnfit l k survivors Full = ⊥
StopsUnfit l k survivors Unequal = ¬ AreFit l k survivors
