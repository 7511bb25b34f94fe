-- What the calls of a server answer, over the limits, the pass before and after, and the answer.
use Rattle.std.specs.Prelude.{◌≡◌, ◌<◌, ℕ, IfSome, List, None, Result, Ok, Err, length, map}
use Rattle.std.specs.List.{All}
use Rattle.tp_model.specs.declared.types.Limits.{Limits}
use Rattle.tp_model.specs.declared.types.Work.{Work}
use Rattle.tp_model.specs.declared.types.Claimed.{Claimed}
use Rattle.tp_model.specs.declared.types.Claimed.TheVariants as claimeds
use Rattle.tp_model.specs.declared.types.Ended.{Ended}
use Rattle.tp_model.specs.declared.types.Ended.TheVariants as endeds
use Rattle.tp_model.specs.declared.types.Outcome.{Outcome}
use Rattle.tp_model.specs.declared.types.Outcome.TheVariants as outcomes
use Rattle.tp_model.specs.declared.types.Refusal.TheVariants as refusals
use Rattle.tp_model.specs.declared.types.TheConstants.{MAX_OUTPUTS}
use Rattle.tp_model.specs.Drafts.{DraftView}
use Rattle.tp_manager.specs.Shown.{PassShown, marks_of}
use Rattle.tp_manager.specs.Bounds.{abort_steps, claim_id_steps, claim_next_steps, claim_next_steps_left}
use Rattle.tp_manager.specs.Bounds.{claim_steps, claim_steps_left, commit_steps}
use Rattle.tp_manager.specs.Calls.{AnswersAbort, Claims, ClaimsNext, Follows, HasEnded, SettlesApart}
use Rattle.tp_manager.specs.Calls.{claims_in}
use Rattle.tp_manager.specs.Given.{ClaimIdFails, TakesId}
use Rattle.tp_manager.specs.Raises.{RaisesMarks}
use Rattle.covetrivet_c.specs.declared.shapes.BornOut.{BornOut}
use Rattle.covetrivet_c.specs.declared.shapes.DraftIn.{DraftIn}
use Rattle.covetrivet_c.specs.declared.fault.Fault.{Fault}
use Rattle.covetrivet_c.specs.declared.fault.Fault.TheVariants as faults
use Rattle.covetrivet_c.specs.Asked.{ManagerAsked, GoesSteps, IsBusy, IsNoClaim, LooksAtId}
use Rattle.covetrivet_c.specs.Asked.{StaysFree}
use Rattle.covetrivet_c.specs.Shapes.{IsDraftIn, draft_given}

-- the claim's answer, as the manager gives it
abbrev pub Claiming : (Claimed → Type 0) → ℕ → PassShown → PassShown → Result Work Fault → Type 0
Claiming Is stage old new (Ok work) = Is (claimeds.Work work)
Claiming Is stage old new (Err faults.Idle) = Is claimeds.Idle
Claiming Is stage old new (Err (faults.Refused refusals.NoUnit)) = Is claimeds.NoUnit
Claiming Is stage old new (Err (faults.Refused other)) = ⊥
Claiming Is stage old new (Err other) = (new ≡ old) × IsNoClaim stage old other

-- `claim`
abbrev pub ClaimSays : ℕ → Limits → PassShown → PassShown → Result Work Fault → Type 0
ClaimSays stage l old new r = Claiming (λ it. GoesSteps (claim_steps l) old new
    × Follows (claim_steps_left l (marks_of old.lows stage)) old new × RaisesMarks l stage old new it
    × Claims l stage old new it) stage old new r

-- `claim_next`
abbrev pub ClaimNextSays : ℕ → Limits → PassShown → PassShown → Result Work Fault → Type 0
ClaimNextSays stage l old new r = Claiming (λ it. Follows (claim_next_steps l) old new
    × Follows (claim_next_steps_left l (marks_of old.lows stage)) old new
    × ClaimsNext l stage old new it) stage old new r

-- `claim_id`
abbrev pub ClaimIdSays : ℕ → Limits → PassShown → PassShown → Result Work Fault → Type 0
ClaimIdSays id l old new r = ManagerAsked (GoesSteps claim_id_steps old new
    × (claims_in old.mine < l.units → LooksAtId l id old new))
    (λ work. TakesId l id work old new) (ClaimIdFails l id old new) (IsBusy old) old new r

-- the unit that was open has ended, and none is open
abbrev pub EndsOpenUnit : ℕ → PassShown → PassShown → Type 0
EndsOpenUnit n old new = StaysFree n old new × IfSome old.open_unit (HasEnded new.seen)

-- `abort`
abbrev pub AbortSays : Limits → PassShown → PassShown → Result (Unit {0}) Fault → Type 0
AbortSays l old new (Ok it) = EndsOpenUnit abort_steps old new × AnswersAbort old new endeds.Aborted
AbortSays l old new (Err faults.Lost) =
    EndsOpenUnit abort_steps old new × AnswersAbort old new endeds.AlreadyAborted
AbortSays l old new (Err faults.NoOpen) = (new ≡ old) × (old.open_unit ≡ None)
AbortSays l old new (Err other) = ⊥

-- a commit of these drafts, as the manager gives it
abbrev pub CommitsDrafts : List DraftView → Limits → PassShown → PassShown → Result Outcome Ended → Type 0
CommitsDrafts drafts l old new it =
    EndsOpenUnit (commit_steps l (length drafts)) old new × SettlesApart drafts old new it

-- and told: FULL where this call aborted the unit, FULL_LOST where another caller had
abbrev pub CommitTold : List DraftView → Limits → PassShown → PassShown → Result BornOut Fault → Type 0
CommitTold drafts l old new (Ok born) =
    CommitsDrafts drafts l old new (Ok (outcomes.Committed born.first born.count))
CommitTold drafts l old new (Err faults.Lost) = CommitsDrafts drafts l old new (Ok outcomes.Lost)
CommitTold drafts l old new (Err (faults.Refused refusals.Full)) =
    CommitsDrafts drafts l old new (Err endeds.Aborted)
CommitTold drafts l old new (Err faults.FullLost) = CommitsDrafts drafts l old new (Err endeds.AlreadyAborted)
CommitTold drafts l old new (Err faults.NoOpen) = (new ≡ old) × (old.open_unit ≡ None)
CommitTold drafts l old new (Err other) = ⊥

-- `commit`
abbrev pub CommitSays : List DraftIn → Limits → PassShown → PassShown → Result BornOut Fault → Type 0
CommitSays drafts l old new (Err faults.TooMany) = (new ≡ old) × (MAX_OUTPUTS < length drafts)
CommitSays drafts l old new (Err faults.BadDraft) = (new ≡ old) × ¬ All IsDraftIn drafts
CommitSays drafts l old new other = CommitTold (map draft_given drafts) l old new other
