-- What killers do in a shift.
use Rattle.std.specs.Prelude.{◌≡◌, ◌⊎◌, ℕ, ◌+◌, ◌-◌, ◌≤◌, ◌<◌, List, Result, MatchResult, None}
use Rattle.tp_model.specs.declared.event.Event.{Event}
use Rattle.tp_model.specs.declared.event.Event.TheVariants.{Kill}
use Rattle.tp_model.specs.declared.types.Killed.{Killed}
use Rattle.tp_model.specs.declared.types.Limits.{Limits}
use Rattle.tp_model.specs.declared.types.Refusal.{Refusal}
use Rattle.tp_manager.specs.Bounds.{kill_steps}
use Rattle.tp_manager.specs.Calls.{Follows, IsOfHolder, KillFails, Kills}
use Rattle.tp_manager.specs.Shown.{ManagerShown, PassShown}
use Rattle.tp_workers.specs.declared.killer.KillJob.{KillJob}
use Rattle.tp_workers.specs.declared.tally.Shift.{Shift}
use Rattle.tp_workers.specs.Calling.{MadeCalls}
use Rattle.tp_workers.specs.Free.{IsFreePass}
use Rattle.tp_workers.specs.Gains.{GainsOnly, kills_in}
use Rattle.tp_workers.specs.Tally.{kill_count}

-- the job's ids are a range
abbrev pub IsKillJob : KillJob → Type 0
IsKillJob job = job.first ≤ job.end

-- the pass can be put to work for this manager, on this job
pub record IsKillerOf (m : ManagerShown) (x : PassShown × KillJob) : Type 0 where
  pub pass : IsFreePass m x.0
  pub job : IsKillJob x.1

-- a call killed the element with this id or was refused, as the manager's call answers
pub record KillsOnce (l : Limits) (id : ℕ) (old : PassShown) (answer : Result Killed Refusal)
    (new : PassShown) : Type 0 where
  pub follows : Follows (kill_steps l) old new
  pub free : new.open_unit ≡ None
  pub told : MatchResult answer (λ killed. Kills l id killed.units_aborted old new)
      (λ why. KillFails l id old new why)

-- a killer that comes to this id, with its pass
pub record Killing : Type 0 where
  pub id : ℕ
  pub pass : PassShown

abbrev pub killing : ℕ → PassShown → Killing
killing id pass = record { id = id; pass = pass }

-- the killer took the id that it came to, and goes on to the next
pub record KillsNext (l : Limits) (old : Killing) (answer : Result Killed Refusal)
    (new : Killing) : Type 0 where
  pub next : new.id ≡ old.id + 1
  pub call : KillsOnce l old.id old.pass answer new.pass

-- The event is pass c's Kill of an id from `first` up to and without `end`, or, between two histories, its
-- Abort of a unit that held such an id where the Abort stands.
abbrev pub IsKillWork : Limits → ℕ → ℕ → ℕ → List Event → List Event → Event → Type 0
IsKillWork l c first end from to e = (id : ℕ) × (first ≤ id) × (id < end)
    × ((e ≡ Kill c id) ⊎ IsOfHolder l c id from to e)

-- a killer of this pass and this job took each id of its range once, and this left the pass so
pub record KillerRan (m : ManagerShown) (old : PassShown × KillJob) (counts : Shift) (new : PassShown
    × KillJob)
    : Type 0 where
  pub calls : MadeCalls (KillsNext m.limits) kill_count (old.1.end - old.1.first)
      (killing old.1.first old.0) counts (killing old.1.end new.0)
  pub gains : GainsOnly (IsKillWork m.limits old.0.number old.1.first old.1.end old.0.seen new.0.seen) old.0
      new.0
  pub killed : counts.killed + kills_in old.0 ≡ kills_in new.0
  pub number : new.0.number ≡ old.0.number
  pub same_job : new.1 ≡ old.1
  pub ready : IsKillerOf m new
