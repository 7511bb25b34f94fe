-- What every call is said to be: asked of the manager, within its steps, or not asked, and then nothing has
-- changed.
use Rattle.std.specs.Prelude.{◌≡◌, ◌<◌, ℕ, None, IsSome, Result, Ok, Err}
use Rattle.tp_model.specs.Steps.{IsServerStage, rows_of}
use Rattle.tp_model.specs.declared.types.Limits.{Limits}
use Rattle.tp_model.specs.declared.types.Refusal.{Refusal}
use Rattle.tp_manager.specs.Shown.{PassShown}
use Rattle.tp_manager.specs.Calls.{Follows, HasLooked, IsQuiet}
use Rattle.covetrivet_c.specs.declared.fault.Fault.{Fault}
use Rattle.covetrivet_c.specs.declared.fault.Fault.TheVariants as faults

-- the pass has made at most n steps, and goes on with claims in turn where it was
abbrev pub GoesSteps : ℕ → PassShown → PassShown → Type 0
GoesSteps n old new = Follows n old new × (new.from ≡ old.from)

-- it has looked, where the id is one of a row
abbrev pub LooksAtId : Limits → ℕ → PassShown → PassShown → Type 0
LooksAtId l id old new = id < rows_of l → HasLooked old new

-- it has done nothing but look
abbrev pub OnlyLooks : ℕ → Limits → ℕ → PassShown → PassShown → Type 0
OnlyLooks n l id old new = GoesSteps n old new × IsQuiet old new × LooksAtId l id old new

-- it has no unit open
abbrev pub StaysFree : ℕ → PassShown → PassShown → Type 0
StaysFree n old new = GoesSteps n old new × (new.open_unit ≡ None)

-- the manager refused it, which is so of the refusal
abbrev pub Refuses : (Refusal → Type 0) → Fault → Type 0
Refuses Why (faults.Refused e) = Why e
Refuses Why other = ⊥

-- there is none, which is so
abbrev pub IsNothing : Type 0 → Fault → Type 0
IsNothing Why faults.Nothing = Why
IsNothing Why other = ⊥

-- the manager was asked, and this is so of the call, of its answer, and of its refusal; or it wasn't asked,
-- for this reason, and nothing has changed
abbrev pub ManagerAsked : {X : Type 0} → Type 0 → (X → Type 0) → (Refusal → Type 0) → (Fault → Type 0)
    → PassShown → PassShown → Result X Fault → Type 0
ManagerAsked Call Is Why Not old new (Ok x) = Call × Is x
ManagerAsked Call Is Why Not old new (Err (faults.Refused e)) = Call × Why e
ManagerAsked Call Is Why Not old new (Err other) = (new ≡ old) × Not other

-- the same where it may find nothing, and refuses nothing
abbrev pub SoughtByC : {X : Type 0} → Type 0 → (X → Type 0) → Type 0 → (Fault → Type 0)
    → PassShown → PassShown → Result X Fault → Type 0
SoughtByC Call Is Why Not old new (Ok x) = Call × Is x
SoughtByC Call Is Why Not old new (Err faults.Nothing) = Call × Why
SoughtByC Call Is Why Not old new (Err other) = (new ≡ old) × Not other

-- the pass has a unit open
abbrev pub IsBusy : PassShown → Fault → Type 0
IsBusy pass faults.Busy = IsSome pass.open_unit
IsBusy pass other = ⊥

-- it has a unit open, or the stage is not a server's
abbrev pub IsNoClaim : ℕ → PassShown → Fault → Type 0
IsNoClaim stage pass faults.BadStage = ¬ IsServerStage stage
IsNoClaim stage pass faults.Busy = IsServerStage stage × IsSome pass.open_unit
IsNoClaim stage pass other = ⊥
