-- What is compared of an element that was described, and of the one that looks show, before any is held.
use Rattle.std.specs.Prelude.{◌≡◌, ℕ, None, Some, List}
use Rattle.std.specs.List.{AllZip}
use Rattle.tp_model.specs.declared.types.Element.{Element}
use Rattle.tp_model.specs.declared.types.Limits.{Limits}
use Rattle.tp_model.specs.declared.types.Look.{Look}
use Rattle.tp_model.specs.declared.event.Event.{Event}
use Rattle.tp_model.specs.History.{element_of, rounds, status_of}
use Rattle.tp_model.specs.Steps.{IsKillable}
use Rattle.tp_rollover.specs.Checks.{AreFamilies, AreOnly, MovedAscend}
use Rattle.tp_rollover.specs.declared.moved.Moved.{Moved}
use Rattle.tp_rollover.specs.declared.survivors.Survivor.{Survivor}

-- it was alive, and the look shows it as it was described, under these ids
pub record IsAlike (s : Survivor) (m : Moved) (is : Look) : Type 0 where
  pub alive : IsKillable s.status
  pub old : m.old ≡ s.id
  pub old_root : m.old_root ≡ s.root
  pub holder : m.holder ≡ s.holder
  pub status : is.status ≡ s.status
  pub stage : is.element.stage ≡ s.stage
  pub body : is.element.body ≡ s.body
  pub root : is.element.root ≡ m.new_root
  pub itself : s.id ≡ s.root → m.new ≡ m.new_root

-- the look shows a client's element, which is like the root that was described
pub record IsRootAlike (s : Survivor) (root : Look) : Type 0 where
  pub by_client : root.element.by ≡ None
  pub stage : root.element.stage ≡ s.root_stage
  pub body : root.element.body ≡ s.root_body

-- what was described waits or is parked so, under the id that it has now
pub record StandsUnheld (limit : ℕ) (g : List Event) (s : Survivor) (m : Moved) : Type 0 where
  pub named : (m.old ≡ s.id) × (m.old_root ≡ s.root)
  pub holder : m.holder ≡ s.holder
  pub item : Element
  pub born : element_of g m.new ≡ Some item
  pub root : item.root ≡ m.new_root
  pub stage : item.stage ≡ s.stage
  pub body : item.body ≡ s.body
  pub status : status_of limit g m.new ≡ s.status
  pub alive : IsKillable s.status
  pub rounds_are : rounds g m.new ≡ s.rounds
  pub request : Element
  pub began : element_of g m.new_root ≡ Some request
  pub by_client : request.by ≡ None
  pub root_stage : request.stage ≡ s.root_stage
  pub root_body : request.body ≡ s.root_body
  pub itself : s.id ≡ s.root → m.new ≡ m.new_root

-- each of these does, under the ids of the same place
abbrev pub AllStandUnheld : ℕ → List Event → List Survivor → List Moved → Type 0
AllStandUnheld limit g survivors moved = AllZip (StandsUnheld limit g) survivors moved

-- and their ids ascend as they did, and two are of one family exactly where they were
pub record StandAlike (limit : ℕ) (g : List Event) (survivors : List Survivor) (moved : List Moved)
    : Type 0 where
  pub each : AllStandUnheld limit g survivors moved
  pub once : MovedAscend moved
  pub families : AreFamilies moved

-- and whatever else was born is consumed
pub record StandUnheld (k : Limits) (g : List Event) (survivors : List Survivor) (moved : List Moved)
    : Type 0 where
  pub each : AllStandUnheld k.attempts g survivors moved
  pub once : MovedAscend moved
  pub families : AreFamilies moved
  pub rest : AreOnly k moved g
