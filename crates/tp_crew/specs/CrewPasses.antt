-- A crew's passes and boxes.
use Rattle.std.specs.Prelude.{◌≡◌, ℕ, ◌+◌, List, length, drop, take, zip}
use Rattle.std.specs.List.{AllZip}
use Rattle.tp_model.specs.declared.types.Limits.{Limits}
use Rattle.tp_model.specs.Passes.{IsPassView}
use Rattle.tp_server.specs.Behaviour.{Behaviour}
use Rattle.tp_manager.specs.Shown.{PassShown, view_in}
use Rattle.tp_desk.specs.Serving.{Leaves}
use Rattle.tp_crew.specs.declared.crew.CrewLimits.{CrewLimits}

-- a manager's limits, with so many parts
abbrev pub limits_with : CrewLimits → ℕ → Limits
limits_with l parts = record {
  parts = parts;
  rows = l.rows;
  units = l.units;
  attempts = l.attempts;
  spare = l.spare;
}

-- how many passes a crew of so many boxes and clients has: one is the caller's own
abbrev pub crew_passes : ℕ → ℕ → ℕ
crew_passes boxes clients = 1 + boxes + clients

-- the limits of the manager of such a crew
abbrev pub crew_limits : CrewLimits → ℕ → ℕ → Limits
crew_limits l boxes clients = limits_with l (crew_passes boxes clients)

-- a crew's passes in order of number: the caller's own, then one for each of so many boxes, then one for each
-- client
abbrev pub own_in : List PassShown → List PassShown
own_in passes = take 1 passes

abbrev pub desks_in : ℕ → List PassShown → List PassShown
desks_in boxes passes = take boxes (drop 1 passes)

abbrev pub clients_in : ℕ → List PassShown → List PassShown
clients_in boxes passes = drop boxes (drop 1 passes)

-- the pass shows what every pass shows between calls
abbrev pub ShowsAsPass : PassShown → Type 0
ShowsAsPass p = IsPassView p.limits (view_in p)

module _ {B : Type 0} (behaviour : B → Behaviour) (registers : B → List ℕ) where
  -- The registers of the box's committed work are those that its effects led to, over the elements that its
  -- desk's pass has consumed since, and its behaviour is the same.
  pub record HasServed (old new : PassShown × B) : Type 0 where
    pub leaves : Leaves (behaviour old.1) (registers old.1) (registers new.1) old.0 new.0
    pub behaviour_is : behaviour new.1 ≡ behaviour old.1

  -- the same of each box since its fold began, with the pass at its place
  abbrev pub HaveServed : List (PassShown × B) → List PassShown → List B → Type 0
  HaveServed folds passes boxes = AllZip HasServed folds (zip (desks_in (length boxes) passes) boxes)
