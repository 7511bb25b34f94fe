-- The answers of a manager of one thread, computed: what each call answers, and the state that it leaves.
use Rattle.std.specs.Prelude.{◌≡◌, ℕ, ◌+◌, ◌<◌, ◌≤◌, nat_le, nat_lt, ◌&&◌, ◌==◌, Bool, false, if◌then◌else◌}
use Rattle.std.specs.Prelude.{Option, Some, None, Result, Ok, Err, List, length, filter, is_some, slice_set}
use Rattle.std.specs.Prelude.{unwrap_or}
use Rattle.std.specs.List.{fold, All}
use Rattle.std.specs.Option.{option_and_then}
use Rattle.std.specs.Result.{result_ok}
use Rattle.tp_model.specs.Steps.{IsServerStage, IsBody}
use Rattle.tp_plain.specs.Listings.{next_member_of, next_reply_of}
use Rattle.tp_plain.specs.Walks.{walk_of}
use Rattle.tp_plain.specs.Reached.{IsReachable}
use Rattle.tp_model.specs.declared.types.Element.{Element}
use Rattle.tp_model.specs.declared.types.Look.{Look}
use Rattle.tp_model.specs.declared.types.Work.{Work}
use Rattle.tp_model.specs.declared.types.Status.{Status}
use Rattle.tp_model.specs.declared.types.Status.TheVariants.{Waiting, Held, Consumed, Parked, Killed}
use Rattle.tp_model.specs.declared.types.Killed.{Killed as KilledAnswer}
use Rattle.tp_model.specs.declared.types.Cancelled.{Cancelled}
use Rattle.tp_model.specs.declared.types.Released.{Released}
use Rattle.tp_model.specs.declared.types.Claimed.{Claimed}
use Rattle.tp_model.specs.declared.types.Claimed.TheVariants as claimed
use Rattle.tp_model.specs.declared.types.Outcome.{Outcome}
use Rattle.tp_model.specs.declared.types.Outcome.TheVariants as outcome
use Rattle.tp_model.specs.declared.types.Ended.{Ended}
use Rattle.tp_model.specs.declared.types.Ended.TheVariants as ended
use Rattle.tp_model.specs.declared.types.Refusal.{Refusal}
use Rattle.tp_model.specs.declared.types.Refusal.TheVariants as refusal
use Rattle.tp_model.specs.declared.event.Event.TheVariants.{Enqueue, Claim, Commit, Abort, Kill, Requeue}
use Rattle.tp_model.specs.Counts.{is_killed}
use Rattle.tp_model.specs.Drafts.{DraftView}
use Rattle.tp_model.specs.History.{element_of, UnitEnd, Committed, Aborted, end_of, rounds, status_of}
use Rattle.tp_model.specs.declared.types.TheConstants.{MAX_OUTPUTS, MAX_ROUNDS, MAX_STAGE, REPLY_STAGE}
use Rattle.tp_plain.specs.Looks.{look_at, sooner, attempts_in, is_unsettled_of, looks_after_all}
use Rattle.tp_model.specs.Births.{IsWhole, request}
use Rattle.tp_plain.specs.OneThread.{Answers, CallSubmit, CallClaim, CallClaimId, CallClaimNext, CallCommit}
use Rattle.tp_plain.specs.OneThread.{CallAbort, CallKill, CallCancel, CallRelease, CallCollect, CallRequeue}
use Rattle.tp_plain.specs.OneThread.{CallRead, State, pass_at, first_row, next_unit, having_taken}
use Rattle.tp_plain.specs.OneThread.{turn_of_pass, moved}
use Rattle.tp_plain.specs.OneThread.{with_pass, with_draw, ready, used_up, extended, freed, freed_after_use}
use Rattle.tp_plain.specs.OneThread.{made_of}

-- whether clients may submit to this stage
abbrev pub is_server_stage : ℕ → Bool
is_server_stage stage = nat_le 1 stage && nat_le stage MAX_STAGE

-- the state after a submit that goes through
abbrev pub with_request : State → ℕ → ℕ → List ℕ → State
with_request s c stage body = moved (with_draw s c 1)
    (Enqueue c (request (first_row s c 1) stage body)) c (used_up (ready s c 1) 1)

-- whether pass c has k rows to use
abbrev pub has_room : State → ℕ → ℕ → Bool
has_room s c k = nat_le k (ready s c k).left

-- a submit
abbrev pub submit_of : State → ℕ → ℕ → List ℕ → Result ℕ Refusal × State
submit_of s c stage body =
    if is_server_stage stage
    then (if has_room s c 1 then (Ok (first_row s c 1), with_request s c stage body)
    else (Err refusal.Full, s))
    else (Err refusal.BadStage, s)

-- of the waiting elements of a stage, the look at the first from an id on: from 0 on at the one with the
-- least id
abbrev pub next_waiting : State → ℕ → ℕ → Option Look
next_waiting s from stage = fold (sooner from stage) None (looks_after_all s.limits.attempts s.history)

-- the work that a claim of a waiting element hands out
abbrev pub work_on : State → ℕ → Look → Work
work_on s c look = record {
  unit = next_unit s c;
  element = look.element;
  attempt = attempts_in look.status + 1;
}

-- the state after a claim of a waiting element, with these places for the pass's claims in turn
abbrev pub with_claimed : State → ℕ → Look → List ℕ → State
with_claimed s c look turns =
    moved s (Claim c (next_unit s c) look.element.id (attempts_in look.status + 1)) c
    (having_taken s c (work_on s c look) turns)

-- a claim of what was found to wait
abbrev pub claim_found : State → ℕ → Option Look → Claimed × State
claim_found s c None = (claimed.Idle, s)
claim_found s c (Some look) = (claimed.Work (work_on s c look), with_claimed s c look (pass_at s c).turns)

-- a claim
abbrev pub claim_of_stage : State → ℕ → ℕ → Claimed × State
claim_of_stage s c stage = if nat_lt (pass_at s c).claimed s.limits.units
    then claim_found s c (next_waiting s 0 stage) else (claimed.NoUnit, s)

-- a claim in turn of what was found to wait: the next one of the stage goes on after it
abbrev pub claim_next_found : State → ℕ → ℕ → Option Look → Claimed × State
claim_next_found s c stage None = (claimed.Idle, s)
claim_next_found s c stage (Some look) = (
  claimed.Work (work_on s c look),
  with_claimed s c look (slice_set (pass_at s c).turns stage (look.element.id + 1)),
)

-- a claim in turn
abbrev pub claim_next_of_stage : State → ℕ → ℕ → Claimed × State
claim_next_of_stage s c stage =
    if nat_lt (pass_at s c).claimed s.limits.units
    then claim_next_found s c stage (next_waiting s (turn_of_pass s c stage) stage)
    else (claimed.NoUnit, s)

-- a claim of a given element of this status
abbrev pub claim_id_at : State → ℕ → Element → Status → Result Work Refusal × State
claim_id_at s c e (Waiting n) =
    let look : Look = record { element = e; status = Waiting n } in
    (Ok (work_on s c look), with_claimed s c look (pass_at s c).turns)
claim_id_at s c e other = (Err refusal.NotWaiting, s)

-- a claim of what was found under an id
abbrev pub claim_id_found : State → ℕ → ℕ → Option Element → Result Work Refusal × State
claim_id_found s c i None = (Err refusal.NotThere, s)
claim_id_found s c i (Some e) =
    if e.stage == REPLY_STAGE
    then (Err refusal.BadStage, s)
    else claim_id_at s c e (status_of s.limits.attempts s.history i)

-- a claim of a given element
abbrev pub claim_id_of : State → ℕ → ℕ → Result Work Refusal × State
claim_id_of s c i =
    if nat_lt (pass_at s c).claimed s.limits.units
    then claim_id_found s c i (element_of s.history i)
    else (Err refusal.NoUnit, s)

-- the unit in the hand of pass c
abbrev pub unit_in_hand : State → ℕ → ℕ
unit_in_hand s c = unwrap_or (pass_at s c).holding 0

-- an abort of a unit that ended so, or is undecided
abbrev pub abort_at : State → ℕ → ℕ → Option UnitEnd → Ended × State
abort_at s c u None = (ended.Aborted, moved s (Abort c u) c (freed (pass_at s c)))
abort_at s c u (Some (Committed first count)) = (ended.Aborted, moved s (Abort c u) c (freed (pass_at s c)))
abort_at s c u (Some Aborted) = (ended.AlreadyAborted, with_pass s c (freed (pass_at s c)))

-- an abort
abbrev pub abort_of : State → ℕ → Ended × State
abort_of s c = abort_at s c (unit_in_hand s c) (end_of s.history (unit_in_hand s c))

-- a commit that goes through
abbrev pub committed_by : State → ℕ → ℕ → List DraftView → Outcome × State
committed_by s c u drafts =
    let k = length drafts in (
      outcome.Committed (if k == 0 then 0 else first_row s c k) k,
      moved (with_draw s c k)
          (Commit c u (made_of s c u drafts)) c (freed_after_use (ready s c k) k),
    )

-- a commit, where the rows suffice, of a unit that ended so, or is undecided
abbrev pub commit_at : State → ℕ → ℕ → List DraftView → Option UnitEnd → Outcome × State
commit_at s c u drafts None = committed_by s c u drafts
commit_at s c u drafts (Some (Committed first count)) = committed_by s c u drafts
commit_at s c u drafts (Some Aborted) = (
  outcome.Lost,
  with_pass (with_draw s c (length drafts)) c (freed_after_use (ready s c (length drafts))
      (length drafts)),
)

-- a commit
abbrev pub commit_of : State → ℕ → List DraftView → Outcome × State
commit_of s c drafts =
    if has_room s c (length drafts)
    then commit_at s c (unit_in_hand s c) drafts (end_of s.history (unit_in_hand s c))
    else (outcome.Full, (abort_of s c).1)

-- a read of what was found
abbrev pub read_found : State → Option Element → Result Look Refusal
read_found s None = Err refusal.NotThere
read_found s (Some e) = Ok (look_at s.limits.attempts s.history e)

-- a read
abbrev pub read_of : State → ℕ → Result Look Refusal
read_of s id = read_found s (element_of s.history id)

-- how many further rounds an element was given that was found
abbrev pub rounds_found : State → ℕ → Option Element → Result ℕ Refusal
rounds_found s id None = Err refusal.NotThere
rounds_found s id (Some e) = Ok (rounds s.history id)

-- the question after an element's rounds
abbrev pub rounds_of : State → ℕ → Result ℕ Refusal
rounds_of s id = rounds_found s id (element_of s.history id)

-- a kill of an element of this status
abbrev pub kill_at : State → ℕ → ℕ → Status → Result KilledAnswer Refusal × State
kill_at s c i (Waiting n) = (Ok (record { units_aborted = 0 }), extended s (Kill c i))
kill_at s c i (Held u n) = (Ok (record { units_aborted = 1 }), extended (extended s (Abort c u)) (Kill c i))
kill_at s c i (Consumed u) = (Err (refusal.Consumed u), s)
kill_at s c i (Parked n) = (Ok (record { units_aborted = 0 }), extended s (Kill c i))
kill_at s c i Killed = (Err refusal.AlreadyKilled, s)

-- a kill of what was found
abbrev pub kill_found : State → ℕ → ℕ → Option Element → Result KilledAnswer Refusal × State
kill_found s c i None = (Err refusal.NotThere, s)
kill_found s c i (Some e) = kill_at s c i (status_of s.limits.attempts s.history i)

-- a kill
abbrev pub kill_of : State → ℕ → ℕ → Result KilledAnswer Refusal × State
kill_of s c i = kill_found s c i (element_of s.history i)

-- a release of an element of this status
abbrev pub release_at : State → ℕ → Status → Result Released Refusal × State
release_at s c (Held u n) = (Ok (record { unit = u; attempt = n }), extended s (Abort c u))
release_at s c other = (Err refusal.NotHeld, s)

-- a release of what was found
abbrev pub release_found : State → ℕ → ℕ → Option Element → Result Released Refusal × State
release_found s c i None = (Err refusal.NotThere, s)
release_found s c i (Some e) = release_at s c (status_of s.limits.attempts s.history i)

-- a release
abbrev pub release_of : State → ℕ → ℕ → Result Released Refusal × State
release_of s c i = release_found s c i (element_of s.history i)

-- a collect of a reply that was killed, or wasn't
abbrev pub collect_at : State → ℕ → ℕ → Element → Bool → Result Element Refusal × State
collect_at s c i e killed = if killed then (Err refusal.AlreadyKilled, s) else (Ok e, extended s (Kill c i))

-- a collect of what was found
abbrev pub collect_found : State → ℕ → ℕ → Option Element → Result Element Refusal × State
collect_found s c i None = (Err refusal.NotThere, s)
collect_found s c i (Some e) =
    if e.stage == REPLY_STAGE
    then collect_at s c i e (is_killed (status_of s.limits.attempts s.history i))
    else (Err refusal.BadStage, s)

-- a collect
abbrev pub collect_of : State → ℕ → ℕ → Result Element Refusal × State
collect_of s c i = collect_found s c i (element_of s.history i)

-- a collect of the next reply, if one was found
abbrev pub collect_next_found : State → ℕ → Option ℕ → Option Element × State
collect_next_found s c None = (None, s)
collect_next_found s c (Some i) = (result_ok (collect_of s c i).0, (collect_of s c i).1)

-- a collect of the next reply to a request
abbrev pub collect_next_of : State → ℕ → ℕ → Option Element × State
collect_next_of s c root = collect_next_found s c (next_reply_of s root 0)

-- a read of the next element of a request
abbrev pub family_of : State → ℕ → ℕ → Option Look
family_of s root from = option_and_then (λ i. result_ok (read_of s i)) (next_member_of s root from)

-- a requeue of an element of this status, and has had this many rounds
abbrev pub requeue_at : State → ℕ → ℕ → ℕ → Status → Result ℕ Refusal × State
requeue_at s c i k (Waiting n) = (Err refusal.NotParked, s)
requeue_at s c i k (Held u n) = (Err refusal.NotParked, s)
requeue_at s c i k (Consumed u) = (Err refusal.NotParked, s)
requeue_at s c i k (Parked n) = if nat_lt k MAX_ROUNDS then (Ok (k + 1), extended s (Requeue c i (k + 1)))
    else (Err refusal.NoRound, s)
requeue_at s c i k Killed = (Err refusal.NotParked, s)

-- a requeue of what was found
abbrev pub requeue_found : State → ℕ → ℕ → Option Element → Result ℕ Refusal × State
requeue_found s c i None = (Err refusal.NotThere, s)
requeue_found s c i (Some e) = requeue_at s c i (rounds s.history i) (status_of s.limits.attempts s.history i)

-- a requeue
abbrev pub requeue_of : State → ℕ → ℕ → Result ℕ Refusal × State
requeue_of s c i = requeue_found s c i (element_of s.history i)

-- whether what was found under an id is of the family, no reply, and not settled
abbrev pub unsettled_found : ℕ → Status → Option Element → Bool
unsettled_found root st None = false
unsettled_found root st (Some e) = is_unsettled_of root st e

-- whether an element with this id is
abbrev pub is_unsettled : State → ℕ → ℕ → Bool
is_unsettled s root i = unsettled_found root (status_of s.limits.attempts s.history i)
    (element_of s.history i)

-- the ids of all those, in the order of a walk through the family
abbrev pub unsettled_ids : State → ℕ → List ℕ
unsettled_ids s root = filter (is_unsettled s root) (walk_of s root)

-- the state after kills by pass c of the elements with these ids, one after another
abbrev pub with_kills : State → ℕ → List ℕ → State
with_kills s c ids = fold (λ t i. (kill_of t c i).1) s ids

-- a cancel of what was found
abbrev pub cancel_found : State → ℕ → ℕ → Option Element → Result Cancelled Refusal × State
cancel_found s c root None = (Err refusal.NotThere, s)
cancel_found s c root (Some e) =
    if is_some e.by
    then (Err refusal.NotThere, s)
    else (Ok (record { killed = length (unsettled_ids s root) }), with_kills s c (unsettled_ids s root))

-- a cancel
abbrev pub cancel_of : State → ℕ → ℕ → Result Cancelled Refusal × State
cancel_of s c root = cancel_found s c root (element_of s.history root)

-- this answer and this state are the computed ones, unless it ran out of memory, which changed nothing
abbrev pub IsComputed : {A : Type 0} → State → State → Result A Refusal → Result A Refusal × State → Type 0
IsComputed old new (Ok x) computed = (computed.0 ≡ Ok x) × (new ≡ computed.1)
IsComputed old new (Err refusal.NoMemory) computed = new ≡ old
IsComputed old new (Err refusal.BadLimits) computed = (computed.0 ≡ Err refusal.BadLimits)
    × (new ≡ computed.1)
IsComputed old new (Err refusal.BadStage) computed = (computed.0 ≡ Err refusal.BadStage) × (new ≡ computed.1)
IsComputed old new (Err refusal.NotThere) computed = (computed.0 ≡ Err refusal.NotThere) × (new ≡ computed.1)
IsComputed old new (Err (refusal.Consumed u)) computed = (computed.0 ≡ Err (refusal.Consumed u))
    × (new ≡ computed.1)
IsComputed old new (Err refusal.AlreadyKilled) computed = (computed.0 ≡ Err refusal.AlreadyKilled)
    × (new ≡ computed.1)
IsComputed old new (Err refusal.Full) computed = (computed.0 ≡ Err refusal.Full) × (new ≡ computed.1)
IsComputed old new (Err refusal.NotParked) computed = (computed.0 ≡ Err refusal.NotParked)
    × (new ≡ computed.1)
IsComputed old new (Err refusal.NotHeld) computed = (computed.0 ≡ Err refusal.NotHeld) × (new ≡ computed.1)
IsComputed old new (Err refusal.NotWaiting) computed = (computed.0 ≡ Err refusal.NotWaiting)
    × (new ≡ computed.1)
IsComputed old new (Err refusal.NoUnit) computed = (computed.0 ≡ Err refusal.NoUnit) × (new ≡ computed.1)
IsComputed old new (Err refusal.NoRound) computed = (computed.0 ≡ Err refusal.NoRound) × (new ≡ computed.1)

-- the same for a call whose computed answer is never a refusal
abbrev pub IsComputedOk : {A : Type 0} → State → State → Result A Refusal → A × State → Type 0
IsComputedOk old new (Ok x) computed = (computed.0 ≡ x) × (new ≡ computed.1)
IsComputedOk old new (Err why) computed = (why ≡ refusal.NoMemory) × (new ≡ old)

-- the computed answers to the calls of pass c are those that a manager of one thread may give
pub record AreAllowed (s : State) (c : ℕ) : Type 0 where
  pub submit : (stage : ℕ) (body : List ℕ) → IsBody body
      → Answers s (CallSubmit c stage body (submit_of s c stage body).0) (submit_of s c stage body).1
  pub claim : (stage : ℕ) → IsServerStage stage → (pass_at s c).holding ≡ None
      → Answers s (CallClaim c stage (Ok (claim_of_stage s c stage).0)) (claim_of_stage s c stage).1
  pub claim_next : (stage : ℕ) → IsServerStage stage → (pass_at s c).holding ≡ None
      → Answers s (CallClaimNext c stage (Ok (claim_next_of_stage s c stage).0))
      (claim_next_of_stage s c stage).1
  pub claim_id : (i : ℕ) → (pass_at s c).holding ≡ None
      → Answers s (CallClaimId c i (claim_id_of s c i).0) (claim_id_of s c i).1
  pub commit : (u : ℕ) (drafts : List DraftView) → (pass_at s c).holding ≡ Some u
      → length drafts ≤ MAX_OUTPUTS
      → All IsWhole drafts
      → Answers s (CallCommit c drafts (Ok (commit_of s c drafts).0)) (commit_of s c drafts).1
  pub abort : (u : ℕ) → (pass_at s c).holding ≡ Some u → Answers s (CallAbort c (abort_of s c).0)
      (abort_of s c).1
  pub kill : (i : ℕ) → Answers s (CallKill c i (kill_of s c i).0) (kill_of s c i).1
  pub cancel : (root : ℕ) → Answers s (CallCancel c root (cancel_of s c root).0) (cancel_of s c root).1
  pub release : (i : ℕ) → Answers s (CallRelease c i (release_of s c i).0) (release_of s c i).1
  pub collect : (i : ℕ) → Answers s (CallCollect c i (collect_of s c i).0) (collect_of s c i).1
  pub requeue : (i : ℕ) → Answers s (CallRequeue c i (requeue_of s c i).0) (requeue_of s c i).1
  pub read : (id : ℕ) → Answers s (CallRead id (read_of s id)) s

-- so it is in every state that a manager of one thread reaches
abbrev pub ComputedAreAllowed : Type 0
ComputedAreAllowed = (s : State) (c : ℕ) → IsReachable s → c < s.limits.parts → AreAllowed s c
