-- What the calls of a client answer, over the limits, the pass before and after, and the answer.
use Rattle.std.specs.Prelude.{◌≡◌, ℕ, ◌≤◌, List, length, Result, MatchResult}
use Rattle.tp_model.specs.declared.types.Limits.{Limits}
use Rattle.tp_model.specs.declared.types.Look.{Look}
use Rattle.tp_model.specs.declared.types.Element.{Element}
use Rattle.tp_model.specs.declared.types.Released.{Released}
use Rattle.tp_model.specs.declared.types.Refusal.TheVariants as refusals
use Rattle.tp_model.specs.declared.types.TheConstants.{MAX_ROUNDS}
use Rattle.tp_model.specs.Families.{family}
use Rattle.tp_model.specs.History.{IsUnborn}
use Rattle.tp_manager.specs.Shown.{PassShown, marks_of}
use Rattle.tp_manager.specs.Bounds.{cancel_steps, collect_next_steps, collect_steps, family_cancel_steps}
use Rattle.tp_manager.specs.Bounds.{family_collect_steps, family_look_steps, family_reply_steps, family_steps}
use Rattle.tp_manager.specs.Bounds.{kill_steps, listing_steps_left, next_error_steps, read_steps}
use Rattle.tp_manager.specs.Bounds.{release_steps}
use Rattle.tp_manager.specs.Bounds.{reply_steps, requeue_steps, rounds_steps, submit_steps}
use Rattle.tp_manager.specs.Calls.{AtPoint, Follows, Kills, KillFails, Reads, Submits, SubmitRefused}
use Rattle.tp_manager.specs.Lists.{AllKilled, NextReply, NoneParked, NextError, NoneOfFamily, NextOfFamily}
use Rattle.tp_manager.specs.Lists.{NoneCollected, CollectsNext}
use Rattle.tp_manager.specs.Requeues.{HasHadRounds, Requeues, RequeueFails}
use Rattle.tp_manager.specs.Releases.{Releases, ReleaseFails, Collects, CollectFails}
use Rattle.tp_manager.specs.Cancels.{Cancels, CancelFails}
use Rattle.covetrivet_c.specs.declared.fault.Fault.{Fault}
use Rattle.covetrivet_c.specs.Asked.{ManagerAsked, GoesSteps, IsBusy, IsNothing, LooksAtId, OnlyLooks}
use Rattle.covetrivet_c.specs.Asked.{Refuses}
use Rattle.covetrivet_c.specs.Asked.{SoughtByC, StaysFree}

-- `submit`
abbrev pub SubmitSays : ℕ → List ℕ → Limits → PassShown → PassShown → Result ℕ Fault → Type 0
SubmitSays stage body l old new r = GoesSteps (submit_steps l) old new × (new.open_unit ≡ old.open_unit)
    × MatchResult r (λ id. Submits id stage body old new) (Refuses (SubmitRefused stage old new))

-- `read`
abbrev pub ReadSays : ℕ → Limits → PassShown → PassShown → Result Look Fault → Type 0
ReadSays id l old new r =
    OnlyLooks (read_steps l) l id old new × MatchResult r (λ look. Reads l id old new look)
    (Refuses (λ e. (e ≡ refusals.NotThere) × AtPoint old new (λ h. IsUnborn h id)))

-- `rounds`
abbrev pub RoundsSays : ℕ → Limits → PassShown → PassShown → Result ℕ Fault → Type 0
RoundsSays id l old new r = OnlyLooks rounds_steps l id old new
    × MatchResult r (λ n. (n ≤ MAX_ROUNDS) × AtPoint old new (HasHadRounds id n))
    (Refuses (λ e. (e ≡ refusals.NotThere) × AtPoint old new (λ h. IsUnborn h id)))

-- `reply`
abbrev pub ReplySays : ℕ → ℕ → Limits → PassShown → PassShown → Result ℕ Fault → Type 0
ReplySays root from l old new r = OnlyLooks (reply_steps l) l from old new
    × Follows (family_reply_steps (length (family new.seen root))) old new
    × MatchResult r (λ id. NextReply l root from id old new)
    (IsNothing (AllKilled l root (λ i. from ≤ i) old new))

-- `next_error`
abbrev pub ErrorSays : ℕ → Limits → PassShown → PassShown → Result ℕ Fault → Type 0
ErrorSays from l old new r = OnlyLooks (next_error_steps l) l from old new
    × Follows (listing_steps_left l (marks_of old.lows 0)) old new
    × MatchResult r (λ id. NextError l from id old new) (IsNothing (NoneParked l (λ i. from ≤ i) old new))

-- `family`
abbrev pub FamilySays : ℕ → ℕ → Limits → PassShown → PassShown → Result Look Fault → Type 0
FamilySays root from l old new r = OnlyLooks (family_steps l) l from old new
    × Follows (family_look_steps l (length (family new.seen root))) old new
    × MatchResult r (λ look. NextOfFamily l root from look old new)
    (IsNothing (NoneOfFamily root from old new))

-- `requeue`
abbrev pub RequeueSays : ℕ → Limits → PassShown → PassShown → Result ℕ Fault → Type 0
RequeueSays id l old new r = GoesSteps requeue_steps old new × LooksAtId l id old new
    × (new.open_unit ≡ old.open_unit)
    × MatchResult r (λ round. Requeues id round old new) (Refuses (RequeueFails l id old new))

-- `kill`
abbrev pub KillSays : ℕ → Limits → PassShown → PassShown → Result ℕ Fault → Type 0
KillSays id l old new r = ManagerAsked (StaysFree (kill_steps l) old new × LooksAtId l id old new)
    (λ n. Kills l id n old new) (KillFails l id old new) (IsBusy old) old new r

-- `cancel`
abbrev pub CancelSays : ℕ → Limits → PassShown → PassShown → Result ℕ Fault → Type 0
CancelSays root l old new r = ManagerAsked (StaysFree (cancel_steps l) old new × LooksAtId l root old new
    × Follows (family_cancel_steps l (length (family new.seen root))) old new)
    (λ n. Cancels l root n old new) (CancelFails root old new) (IsBusy old) old new r

-- `release`
abbrev pub ReleaseSays : ℕ → Limits → PassShown → PassShown → Result Released Fault → Type 0
ReleaseSays id l old new r = ManagerAsked (StaysFree release_steps old new × LooksAtId l id old new)
    (λ it. Releases l id it.unit it.attempt old new) (ReleaseFails l id old new) (IsBusy old) old new r

-- `collect`
abbrev pub CollectSays : ℕ → Limits → PassShown → PassShown → Result Element Fault → Type 0
CollectSays id l old new r = ManagerAsked (StaysFree collect_steps old new × LooksAtId l id old new)
    (λ x. Collects id x old new) (CollectFails l id old new) (IsBusy old) old new r

-- `collect_next`, for which nothing may be found
abbrev pub NextSays : ℕ → Limits → PassShown → PassShown → Result Element Fault → Type 0
NextSays root l old new r = SoughtByC (StaysFree (collect_next_steps l) old new × LooksAtId l root old new
    × Follows (family_collect_steps (length (family new.seen root))) old new)
    (λ x. CollectsNext l root x old new) (NoneCollected l root old new) (IsBusy old) old new r
