-- What a rollover of a crew leaves.
use Rattle.std.specs.Prelude.{◌≡◌, ◌+◌, List, length, zip}
use mathlib.Core.List.{IsPrefix}
use Rattle.tp_model.specs.declared.event.Event.{Event}
use Rattle.tp_model.specs.declared.types.Limits.{Limits}
use Rattle.tp_manager.specs.Bounds.{gather_steps}
use Rattle.tp_manager.specs.Shown.{KeeperShown, PassShown}
use Rattle.tp_rollover.specs.Bounds.{AllMake, alive_after, survey_steps}
use Rattle.tp_rollover.specs.Managed.{GoesOnAnew, StaysManaged}
use Rattle.tp_rollover.specs.declared.moved.Moved.{Moved}
use Rattle.tp_crew.specs.declared.crew.Crew.{Crew}
use Rattle.tp_crew.specs.Crew.{IsSameCrew, folds}
use Rattle.tp_crew.specs.CrewPasses.{desks_in}

-- a rollover that was refused, with so many alive as after this history, and a gathering
abbrev pub RefusedSteps : Limits → List Event → KeeperShown → List PassShown → KeeperShown → List PassShown
    → Type 0
RefusedSteps l point keeper olds keeper' news =
    AllMake (survey_steps l l.parts (alive_after l.attempts point) + gather_steps l l.parts)
    keeper olds keeper' news

module _ {X : Type 0} {F : X → Type 0} where
  -- The crew has gone on in another manager, of the same limits, and the folds of all boxes' work begin
  -- there.
  pub record CrewRolls (old new : Crew X F) (moved : List Moved) : Type 0 where
    pub goes_on : GoesOnAnew old.managed new.managed moved
    pub begun : folds new ≡ zip (desks_in (length new.boxes.items) new.managed.passes.items) new.boxes.items

  -- it is the same crew, with the same boxes, and its passes have done nothing but look
  pub record CrewStays (old new : Crew X F) : Type 0 where
    pub same : IsSameCrew old new
    pub boxes : new.boxes ≡ old.boxes
    pub stays : StaysManaged old.managed new.managed

  -- Refused, its passes have made at most the steps up to the kills, with as many alive as after a history
  -- that all have seen since, and those of a gathering.
  pub record RefusedWithin (old new : Crew X F) : Type 0 where
    pub point : List Event
    pub seen : IsPrefix point new.managed.keeper.seen
    pub steps : RefusedSteps old.managed.manager.limits point old.managed.keeper old.managed.passes.items
        new.managed.keeper new.managed.passes.items
