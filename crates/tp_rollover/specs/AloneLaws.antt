-- The laws of one thread: what a call answers, and the state that it leaves, are the computed ones.
use Rattle.std.specs.Prelude.{◌≡◌, ℕ, ◌<◌, ◌≤◌, [], List, Option, Result, MatchOption, MatchResult, IfSome}
use Rattle.std.specs.List.{AllZip}
use Rattle.tp_model.specs.declared.types.Cancelled.{Cancelled}
use Rattle.tp_model.specs.declared.types.Claimed.{Claimed}
use Rattle.tp_model.specs.declared.types.Element.{Element}
use Rattle.tp_model.specs.declared.types.Killed.{Killed}
use Rattle.tp_model.specs.declared.types.Limits.{Limits}
use Rattle.tp_model.specs.declared.types.Look.{Look}
use Rattle.tp_model.specs.declared.types.Refusal.{Refusal}
use Rattle.tp_model.specs.declared.types.Refusal.TheVariants as refusal
use Rattle.tp_model.specs.declared.types.Released.{Released}
use Rattle.tp_model.specs.declared.event.Event.{Event}
use Rattle.tp_model.specs.declared.types.Work.{Work}
use Rattle.tp_model.specs.Drafts.{DraftView}
use Rattle.tp_model.specs.History.{In, IsUnborn}
use Rattle.tp_model.specs.Steps.{IsServerStage, rows_of}
use Rattle.tp_plain.specs.Computed.{abort_of, cancel_of, claim_id_of, claim_next_of_stage, claim_of_stage}
use Rattle.tp_plain.specs.Computed.{collect_next_of, collect_of, commit_of, family_of, kill_of, read_of}
use Rattle.tp_plain.specs.Computed.{release_of, requeue_of, rounds_of, submit_of}
use Rattle.tp_plain.specs.Listings.{next_error_of, next_reply_of}
use Rattle.tp_plain.specs.OneThread.{State, start}
use Rattle.tp_manager.specs.Accounts.{AreAll, Attends, Gathers}
use Rattle.tp_manager.specs.Calls.{AtPoint, Claims, ClaimsNext, AnswersAbort, IsQuiet, KillFails, Kills}
use Rattle.tp_manager.specs.Calls.{Reads, Settles, SubmitRefused, Submits}
use Rattle.tp_manager.specs.Cancels.{CancelFails, Cancels}
use Rattle.tp_manager.specs.Lists.{AllKilled, CollectsNext, NextError, NextOfFamily, NextReply, NoneCollected}
use Rattle.tp_manager.specs.Lists.{NoneOfFamily, NoneParked}
use Rattle.tp_manager.specs.Releases.{CollectFails, Collects, ReleaseFails, Releases}
use Rattle.tp_manager.specs.Requeues.{HasHadRounds, RequeueFails, Requeues}
use Rattle.tp_manager.specs.Shown.{KeeperShown, PassShown}
use Rattle.tp_manager.specs.Given.{ClaimIdFails, TakesId}
use Rattle.tp_rollover.specs.Thread.{Alone, AreTogether, IsFresh, Stays, thread_of}

-- what holds of a call of pass c with this answer, where nobody else acts, and the call is no claim in turn:
-- then it leaves where those begin
abbrev pub Law : {A : Type 0} → (Limits → PassShown → PassShown → A → Type 0) → (State → ℕ → A × State)
    → Type 0
Law {A} Answers computed =
    (l : Limits) (keeper keeper' : KeeperShown) (olds news : List PassShown) (h h' : List Event)
    (n c : ℕ) (old new : PassShown) (answer : A)
    → Alone l keeper keeper' olds news h h' n c old new → new.from ≡ old.from → Answers l old new answer
    → (answer, thread_of l news h') ≡ computed (thread_of l olds h) c

-- what a submit answers
abbrev pub SubmitAnswers : ℕ → List ℕ → PassShown → PassShown → Result ℕ Refusal → Type 0
SubmitAnswers stage body old new r =
    MatchResult r (λ id. Submits id stage body old new) (SubmitRefused stage old new)

abbrev pub AloneSubmit : Type 0
AloneSubmit = (stage : ℕ) (body : List ℕ)
    → Law (λ l. SubmitAnswers stage body) (λ s c. submit_of s c stage body)

-- a claim
abbrev pub AloneClaim : Type 0
AloneClaim = (stage : ℕ) → Law (λ l. Claims l stage) (λ s c. claim_of_stage s c stage)

-- a claim in turn
abbrev pub AloneClaimNext : Type 0
AloneClaimNext =
    (stage : ℕ) (l : Limits) (keeper keeper' : KeeperShown) (olds news : List PassShown) (h h' : List Event)
    (n c : ℕ) (old new : PassShown) (answer : Claimed)
    → Alone l keeper keeper' olds news h h' n c old new → IsServerStage stage
    → ClaimsNext l stage old new answer
    → (answer, thread_of l news h') ≡ claim_next_of_stage (thread_of l olds h) c stage

-- what a claim of a given element answers
abbrev pub ClaimIdAnswers : ℕ → Limits → PassShown → PassShown → Result Work Refusal → Type 0
ClaimIdAnswers id l old new r = MatchResult r (λ work. TakesId l id work old new) (ClaimIdFails l id old new)

abbrev pub AloneClaimId : Type 0
AloneClaimId = (id : ℕ) → Law (ClaimIdAnswers id) (λ s c. claim_id_of s c id)

abbrev pub AloneAbort : Type 0
AloneAbort = Law (λ l. AnswersAbort) abort_of

-- what a read answers
abbrev pub ReadAnswers : ℕ → Limits → PassShown → PassShown → Result Look Refusal → Type 0
ReadAnswers id l old new r = IsQuiet old new × MatchResult r (Reads l id old new)
    (λ why. (why ≡ refusal.NotThere) × AtPoint old new (λ h. IsUnborn h id))

abbrev pub AloneRead : Type 0
AloneRead = (id : ℕ) → Law (ReadAnswers id) (λ s c. (read_of s id, s))

-- what the question after an element's rounds answers
abbrev pub RoundsAnswers : ℕ → Limits → PassShown → PassShown → Result ℕ Refusal → Type 0
RoundsAnswers id l old new r = IsQuiet old new × MatchResult r (λ n. AtPoint old new (HasHadRounds id n))
    (λ why. (why ≡ refusal.NotThere) × AtPoint old new (λ h. IsUnborn h id))

abbrev pub AloneRounds : Type 0
AloneRounds = (id : ℕ) → Law (RoundsAnswers id) (λ s c. (rounds_of s id, s))

-- what a kill answers
abbrev pub KillAnswers : ℕ → Limits → PassShown → PassShown → Result Killed Refusal → Type 0
KillAnswers id l old new r = MatchResult r (λ k. Kills l id k.units_aborted old new) (KillFails l id old new)

abbrev pub AloneKill : Type 0
AloneKill = (id : ℕ) → Law (KillAnswers id) (λ s c. kill_of s c id)

-- what a cancel answers
abbrev pub CancelAnswers : ℕ → Limits → PassShown → PassShown → Result Cancelled Refusal → Type 0
CancelAnswers root l old new r = MatchResult r (λ k. Cancels l root k.killed old new)
    (CancelFails root old new)

abbrev pub AloneCancel : Type 0
AloneCancel = (root : ℕ) → Law (CancelAnswers root) (λ s c. cancel_of s c root)

abbrev pub AloneCommit : Type 0
AloneCommit = (drafts : List DraftView) → Law (λ l. Settles drafts) (λ s c. commit_of s c drafts)

-- what a requeue answers
abbrev pub RequeueAnswers : ℕ → Limits → PassShown → PassShown → Result ℕ Refusal → Type 0
RequeueAnswers id l old new r = MatchResult r (λ round. Requeues id round old new) (RequeueFails l id old new)

abbrev pub AloneRequeue : Type 0
AloneRequeue = (id : ℕ) → Law (RequeueAnswers id) (λ s c. requeue_of s c id)

-- what a release answers
abbrev pub ReleaseAnswers : ℕ → Limits → PassShown → PassShown → Result Released Refusal → Type 0
ReleaseAnswers id l old new r =
    MatchResult r (λ a. Releases l id a.unit a.attempt old new) (ReleaseFails l id old new)

abbrev pub AloneRelease : Type 0
AloneRelease = (id : ℕ) → Law (ReleaseAnswers id) (λ s c. release_of s c id)

-- what a collect answers
abbrev pub CollectAnswers : ℕ → Limits → PassShown → PassShown → Result Element Refusal → Type 0
CollectAnswers id l old new r = MatchResult r (λ x. Collects id x old new) (CollectFails l id old new)

abbrev pub AloneCollect : Type 0
AloneCollect = (id : ℕ) → Law (CollectAnswers id) (λ s c. collect_of s c id)

-- where nothing was done, however many passes are handed out, it is the manager of one thread to which
-- nothing happened
abbrev pub AloneStart : Type 0
AloneStart =
    (l : Limits) (keeper : KeeperShown) (passes : List PassShown) (h : List Event)
    → AreTogether l keeper passes h → ((p : PassShown) → In p passes → IsFresh l p)
    → thread_of l passes h ≡ start l

-- and with no pass handed out it is so
abbrev pub AloneNone : Type 0
AloneNone = (l : Limits) (keeper : KeeperShown) → keeper.given ≡ 0 → AreTogether l keeper [] []

-- whoever was there as all looked together has done nothing but look
abbrev pub AttendsStays : Type 0
AttendsStays = (n : ℕ) (h : List Event) (old new : PassShown) → Attends n h old new → Stays old new

-- passes that have gathered are together, and have done nothing but look
abbrev pub GatheredTogether : Type 0
GatheredTogether =
    (l : Limits) (n : ℕ) (keeper keeper' : KeeperShown) (olds news : List PassShown)
    → Gathers l n keeper keeper' olds news → AreAll keeper' news → keeper'.given ≡ keeper.given
    → ((p : PassShown) → In p news → p.limits ≡ l)
    → AreTogether l keeper' news keeper'.seen × AllZip Stays olds news

-- what the listings answer
abbrev pub ReplyAnswers : ℕ → ℕ → Limits → PassShown → PassShown → Option ℕ → Type 0
ReplyAnswers root from l old new r =
    IsQuiet old new × IfSome r (λ id. id < rows_of l)
    × MatchOption r (AllKilled l root (λ i. from ≤ i) old new) (λ id. NextReply l root from id old new)

abbrev pub AloneReply : Type 0
AloneReply = (root from : ℕ) → Law (ReplyAnswers root from) (λ s c. (next_reply_of s root from, s))

abbrev pub ErrorAnswers : ℕ → Limits → PassShown → PassShown → Option ℕ → Type 0
ErrorAnswers from l old new r =
    IsQuiet old new × IfSome r (λ id. id < rows_of l)
    × MatchOption r (NoneParked l (λ i. from ≤ i) old new) (λ id. NextError l from id old new)

abbrev pub AloneError : Type 0
AloneError = (from : ℕ) → Law (ErrorAnswers from) (λ s c. (next_error_of s from, s))

-- what a look for the next element of a request answers
abbrev pub FamilyAnswers : ℕ → ℕ → Limits → PassShown → PassShown → Option Look → Type 0
FamilyAnswers root from l old new r =
    IsQuiet old new
    × MatchOption r (NoneOfFamily root from old new) (λ look. NextOfFamily l root from look old new)

abbrev pub AloneFamily : Type 0
AloneFamily = (root from : ℕ) → Law (FamilyAnswers root from) (λ s c. (family_of s root from, s))

-- what a collect of the next reply answers
abbrev pub CollectNextAnswers : ℕ → Limits → PassShown → PassShown → Option Element → Type 0
CollectNextAnswers root l old new r =
    MatchOption r (NoneCollected l root old new) (λ x. CollectsNext l root x old new)

abbrev pub AloneCollectNext : Type 0
AloneCollectNext = (root : ℕ) → Law (CollectNextAnswers root) (λ s c. collect_next_of s c root)

-- where all were together, and all have done nothing but look until they were together again, nothing has
-- happened
abbrev pub AloneIdle : Type 0
AloneIdle =
    (l : Limits) (keeper keeper' : KeeperShown) (olds news : List PassShown) (h h' : List Event)
    → AreTogether l keeper olds h → AllZip Stays olds news → AreTogether l keeper' news h'
    → (h' ≡ h) × (thread_of l news h' ≡ thread_of l olds h)
