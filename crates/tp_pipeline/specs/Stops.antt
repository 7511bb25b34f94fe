-- Why the pipeline doesn't go on: what each of its faults tells.
use Rattle.std.specs.Prelude.{◌≡◌, ℕ}
use Rattle.tp_manager.specs.Bounds.{submit_steps}
use Rattle.tp_manager.specs.Calls.{SubmitRefused}
use Rattle.tp_manager.specs.declared.manager.MakeFault.TheVariants as made
use Rattle.tp_crew.specs.Crew.{OwnCall}
use Rattle.tp_crew.specs.declared.crew.Crew.{Crew}
use Rattle.tp_pipeline.specs.Submitting.{SubmitsPayments, SubmitsPayment}
use Rattle.tp_pipeline.specs.declared.faults.PipelineFault.{PipelineFault}
use Rattle.tp_pipeline.specs.declared.faults.PipelineFault.TheVariants.{NoManager, NoMemory, NoOutput}
use Rattle.tp_pipeline.specs.declared.faults.PipelineFault.TheVariants.{NoRoom, Refused}

module _ {X : Type 0} {F : X → Type 0} where
  -- the payment with this number was refused, and that is told; or it was submitted, and no memory was had to
  -- note it
  abbrev pub StopsAt : Crew X F → ℕ → Crew X F → PipelineFault → Type 0
  StopsAt old number new (Refused why) =
      OwnCall (submit_steps old.managed.manager.limits) (λ p q. SubmitRefused 1 p q why) old new
  StopsAt old number new NoMemory = SubmitsPayment old number new
  StopsAt old number new other = ⊥

  -- the payments from this number on were submitted up to one at which it stopped so
  abbrev pub StopsBehind : ℕ → Crew X F → Crew X F → PipelineFault → Type 0
  StopsBehind from old new fault = (to : ℕ) × (between : Crew X F) × SubmitsPayments from to old between
      × StopsAt between to new fault

-- what keeps a batch from its end: no manager is made in it, and nothing printed
abbrev pub IsBatchFault : PipelineFault → Type 0
IsBatchFault (NoManager why) = ⊥
IsBatchFault NoOutput = ⊥
IsBatchFault NoRoom = ⊥
IsBatchFault other = Unit {0}

-- and the service: its own limits are good
abbrev pub IsServiceFault : PipelineFault → Type 0
IsServiceFault (NoManager why) = why ≡ made.NoMemory
IsServiceFault NoOutput = ⊥
IsServiceFault NoRoom = ⊥
IsServiceFault other = Unit {0}
