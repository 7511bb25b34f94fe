-- What clients do in a shift.
use Rattle.std.specs.Prelude.{◌≡◌, ℕ, ◌+◌, List, [], ◌∷◌, length, Result, MatchResult}
use Rattle.std.specs.List.{Contains}
use Rattle.tp_model.specs.declared.event.Event.{Event}
use Rattle.tp_model.specs.declared.event.Event.TheVariants.{Enqueue}
use Rattle.tp_model.specs.declared.types.Limits.{Limits}
use Rattle.tp_model.specs.declared.types.Refusal.{Refusal}
use Rattle.tp_model.specs.Steps.{IsServerStage}
use Rattle.tp_model.specs.Births.{request}
use Rattle.tp_manager.specs.Bounds.{submit_steps}
use Rattle.tp_manager.specs.Calls.{Follows, Submits, SubmitRefused}
use Rattle.tp_manager.specs.Shown.{ManagerShown, PassShown}
use Rattle.tp_workers.specs.declared.tally.Shift.{Shift}
use Rattle.tp_workers.specs.Calling.{MadeCalls}
use Rattle.tp_workers.specs.Free.{IsFreePass}
use Rattle.tp_workers.specs.Gains.{GainsOnly, enqueues_in}
use Rattle.tp_workers.specs.Tally.{submit_count}

-- what a client is to do: to submit these bodies to this stage
pub record JobShown : Type 0 where
  pub stage : ℕ
  pub bodies : List (List ℕ)

-- the job's stage is a server's
abbrev pub IsClientJob : JobShown → Type 0
IsClientJob job = IsServerStage job.stage

-- the pass can be put to work for this manager, on this job
pub record IsClientOf (m : ManagerShown) (x : PassShown × JobShown) : Type 0 where
  pub pass : IsFreePass m x.0
  pub job : IsClientJob x.1

-- a call submitted this body or was refused, as the manager's call answers
pub record SubmitsOnce (l : Limits) (stage : ℕ) (body : List ℕ) (old : PassShown) (answer : Result ℕ Refusal)
    (new : PassShown)
    : Type 0 where
  pub follows : Follows (submit_steps l) old new
  pub open_unit : new.open_unit ≡ old.open_unit
  pub told : MatchResult answer
      (λ id. Submits id stage body old new)
      (λ why. SubmitRefused stage old new why)

-- a client that has these bodies left to submit, with its pass
pub record Submitting : Type 0 where
  pub left : List (List ℕ)
  pub pass : PassShown

abbrev pub submitting : List (List ℕ) → PassShown → Submitting
submitting left pass = record { left = left; pass = pass }

-- the client submitted the first of the bodies that were left to it, or was refused, and the others are left
pub record SubmitsFirst (l : Limits) (stage : ℕ) (old : Submitting) (answer : Result ℕ Refusal)
    (new : Submitting) : Type 0 where
  pub body : List ℕ
  pub first : old.left ≡ body ∷ new.left
  pub call : SubmitsOnce l stage body old.pass answer new.pass

-- the event is an Enqueue of one of these bodies
abbrev pub IsSubmitOf : ℕ → List (List ℕ) → Event → Type 0
IsSubmitOf stage bodies e = (body : List ℕ) × Contains bodies body × (c : ℕ) × (id : ℕ)
    × (e ≡ Enqueue c (request id stage body))

-- a client of this pass and this job submitted each of its bodies once, in their order, and this left the
-- pass so
pub record ClientRan (m : ManagerShown) (old : PassShown × JobShown) (counts : Shift) (new : PassShown
    × JobShown)
    : Type 0 where
  pub calls : MadeCalls (SubmitsFirst m.limits old.1.stage) submit_count (length old.1.bodies)
      (submitting old.1.bodies old.0) counts (submitting [] new.0)
  pub gains : GainsOnly (IsSubmitOf old.1.stage old.1.bodies) old.0 new.0
  pub submitted : counts.submitted + enqueues_in old.0 ≡ enqueues_in new.0
  pub number : new.0.number ≡ old.0.number
  pub same_job : new.1 ≡ old.1
  pub ready : IsClientOf m new
