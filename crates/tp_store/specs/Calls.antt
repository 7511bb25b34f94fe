-- What the calls of a store answer, and what they leave.
use Rattle.std.specs.Prelude.{◌≡◌, ◌≤◌, ◌⊎◌, ◌^◌, ℕ, ◌+◌, ◌==◌, ◌&&◌, nat_le, nat_lt, Bool, not, if◌then◌else◌, Option, Some, None, Result, Ok, Err, List, [], ◌∷◌, length, filter}
use Rattle.std.specs.Option.{option_or}
use Rattle.tp_model.specs.Drafts.{DraftView}
use Rattle.tp_store.specs.declared.element.TheConstants.{LAST_STAGE, MAX_ROUNDS, REPLY_STAGE}
use Rattle.tp_store.specs.declared.element.Element.{Element}
use Rattle.tp_store.specs.declared.element.Status.{Status}
use Rattle.tp_store.specs.declared.element.Status.TheVariants.{Waiting, Held, Consumed, Parked, Killed}
use Rattle.tp_store.specs.declared.births.Origin.{Origin}
use Rattle.tp_store.specs.declared.answers.Refusal.{Refusal}
use Rattle.tp_store.specs.declared.answers.Refusal.TheVariants as refusals
use Rattle.tp_store.specs.declared.answers.Work.{Work}
use Rattle.tp_store.specs.declared.answers.Outcome.{Outcome}
use Rattle.tp_store.specs.declared.answers.Outcome.TheVariants as outcomes
use Rattle.tp_store.specs.declared.answers.Ended.{Ended}
use Rattle.tp_store.specs.declared.answers.Ended.TheVariants as ended
use Rattle.tp_store.specs.declared.answers.Killed.{Killed as KilledAnswer}
use Rattle.tp_store.specs.declared.answers.Cancelled.{Cancelled}
use Rattle.tp_store.specs.declared.answers.Released.{Released}
use Rattle.tp_store.specs.Elements.{Entry, alive_of, element_at, first_in, is_held_by, is_in_from, queue_of, standing}
use Rattle.tp_store.specs.Ends.{is_over}
use Rattle.tp_store.specs.State.{State, swept, with_births, with_change, with_end}

-- A call answers what is computed, and leaves that; but where memory is wanted, or there are no more numbers,
-- it is refused and nothing has changed.
abbrev pub Does : {A : Type 0} → Result A Refusal → State → Result A Refusal × State → State → Type 0
Does (Err refusals.NoMemory) new done old = new ≡ old
Does (Err refusals.NoNumber) new done old = new ≡ old
Does (Err why) new done old = (Err why ≡ done.0) × (new ≡ done.1)
Does (Ok a) new done old = (Ok a ≡ done.0) × (new ≡ done.1)

-- memory is wanted, or there are no more numbers
abbrev pub IsShort : Refusal → Type 0
IsShort refusals.NoMemory = Unit {0}
IsShort refusals.NoNumber = Unit {0}
IsShort other = ⊥

-- a stage that workers take from, and clients submit to
abbrev pub is_server_stage : ℕ → Bool
is_server_stage stage = nat_le 1 stage && (nat_le stage LAST_STAGE && not (stage == REPLY_STAGE))

-- ---- submit

-- a client's request, which is its own root
abbrev pub of_client : ℕ → Option ℕ → Origin
of_client id owner = record { root = id; by = None; owner = owner }

-- how many elements are alive
abbrev pub alive_in : State → ℕ
alive_in s = s.tally.total.waiting + s.tally.total.held + s.tally.total.parked

abbrev pub submit_of : ℕ → List ℕ → Option ℕ → State → Result ℕ Refusal × State
submit_of stage body owner s =
    if is_server_stage stage
    then (if nat_lt (alive_in s) s.limits.most
    then (Ok s.next, swept (with_births (of_client s.next owner) (record { stage = stage; body = body } ∷ []) s))
    else (Err refusals.Full, s))
    else (Err refusals.BadStage, s)

-- ---- claims

abbrev pub with_unit : State → State
with_unit s = record s { units = s.units + 1 }

-- the work on an element, which was taken so often before
abbrev pub work_on : ℕ → ℕ → ℕ → Element → Work
work_on unit id attempts e = record { id = id; unit = unit; attempt = attempts + 1; element = e }

-- the element with this id is handed out, where it waits
abbrev pub hand_out_as : ℕ → Element → Status → State → Result Work Refusal × State
hand_out_as id e (Waiting n) s = (
  Ok (work_on s.units id n (standing (Held s.units (n + 1)) e)),
  with_unit (with_change id e (standing (Held s.units (n + 1)) e) s),
)
hand_out_as id e other s = (Err refusals.NotWaiting, s)

abbrev pub hand_out : ℕ → Element → State → Result Work Refusal × State
hand_out id e s = hand_out_as id e e.status s

-- no number is left for a unit of work, or for another attempt at some element
abbrev pub IsSpent : State → Type 0
IsSpent s = (2 ^ 64 ≤ s.units + 1)
    ⊎ ((id n : ℕ) × (e : Element) × (element_at id s.elements ≡ Some e) × (e.status ≡ Waiting n) × (255 ≤ n))

-- what was handed out, as a claim tells it
abbrev pub as_claimed : Result Work Refusal × State → Result (Option Work) Refusal × State
as_claimed (Ok work, s) = (Ok (Some work), s)
as_claimed (Err why, s) = (Err why, s)

-- the first element is taken, if there is one
abbrev pub claim_first : Option Entry → State → Result (Option Work) Refusal × State
claim_first None s = (Ok None, s)
claim_first (Some e) s = as_claimed (hand_out e.0 e.1 s)

-- the waiting element of a stage with the least id
abbrev pub claim_of : ℕ → State → Result (Option Work) Refusal × State
claim_of stage s =
    if is_server_stage stage then claim_first (first_in queue_of stage 0 s.elements) s else (Err refusals.BadStage, s)

-- the same from an id on, and else that with the least id
abbrev pub claim_from_of : ℕ → ℕ → State → Result (Option Work) Refusal × State
claim_from_of stage from s =
    if is_server_stage stage
    then claim_first (option_or (first_in queue_of stage from s.elements) (first_in queue_of stage 0 s.elements)) s
    else (Err refusals.BadStage, s)

-- this element
abbrev pub take_at : ℕ → Option Element → State → Result Work Refusal × State
take_at id None s = (Err refusals.NotThere, s)
take_at id (Some e) s = if e.stage == REPLY_STAGE then (Err refusals.BadStage, s) else hand_out id e s

abbrev pub take_of : ℕ → State → Result Work Refusal × State
take_of id s = take_at id (element_at id s.elements) s

-- ---- commit, abort, release

-- the elements that a unit makes of one are of its request
abbrev pub of_unit : ℕ → Element → Origin
of_unit unit e = record { root = e.root; by = Some unit; owner = e.owner }

-- the unit's outputs are born and its element is consumed
abbrev pub consumed : ℕ → ℕ → Element → List DraftView → State → State
consumed id unit e drafts s =
    swept (with_end e.root (with_change id e (standing (Consumed unit) e) (with_births (of_unit unit e) drafts s)))

abbrev pub commit_at : ℕ → ℕ → Option Element → List DraftView → State → Result Outcome Refusal × State
commit_at id unit None drafts s = (Ok outcomes.Lost, s)
commit_at id unit (Some e) drafts s =
    if is_held_by unit e.status
    then (Ok (outcomes.Committed s.next (length drafts)), consumed id unit e drafts s)
    else (Ok outcomes.Lost, s)

abbrev pub commit_of : ℕ → ℕ → List DraftView → State → Result Outcome Refusal × State
commit_of id unit drafts s = commit_at id unit (element_at id s.elements) drafts s

-- how an element stands whose attempt was given up: it waits again, or is parked behind the last one
abbrev pub given_up : ℕ → ℕ → Status
given_up limit attempt = if nat_lt attempt limit then Waiting attempt else Parked attempt

abbrev pub give_up : ℕ → Element → ℕ → State → State
give_up id e attempt s = with_change id e (standing (given_up s.limits.attempts attempt) e) s

abbrev pub abort_as : ℕ → ℕ → Element → Status → State → Result Ended Refusal × State
abort_as id unit e (Held u n) s =
    if u == unit then (Ok ended.Aborted, give_up id e n s) else (Ok ended.AlreadyAborted, s)
abort_as id unit e other s = (Ok ended.AlreadyAborted, s)

abbrev pub abort_at : ℕ → ℕ → Option Element → State → Result Ended Refusal × State
abort_at id unit None s = (Ok ended.AlreadyAborted, s)
abort_at id unit (Some e) s = abort_as id unit e e.status s

abbrev pub abort_of : ℕ → ℕ → State → Result Ended Refusal × State
abort_of id unit s = abort_at id unit (element_at id s.elements) s

abbrev pub release_as : ℕ → Element → Status → State → Result Released Refusal × State
release_as id e (Held u n) s = (Ok (record { unit = u; attempt = n }), give_up id e n s)
release_as id e other s = (Err refusals.NotHeld, s)

abbrev pub release_at : ℕ → Option Element → State → Result Released Refusal × State
release_at id None s = (Err refusals.NotThere, s)
release_at id (Some e) s = release_as id e e.status s

abbrev pub release_of : ℕ → State → Result Released Refusal × State
release_of id s = release_at id (element_at id s.elements) s

-- ---- kill, cancel, requeue, collect

abbrev pub killed : ℕ → Element → State → State
killed id e s = with_change id e (standing Killed e) s

-- work on an element has ended so
abbrev pub with_ended : ℕ → Element → Status → State → State
with_ended id e status s = swept (with_end e.root (with_change id e (standing status e) s))

abbrev pub kill_as : ℕ → Element → Status → State → Result KilledAnswer Refusal × State
kill_as id e (Consumed u) s = (Err (refusals.Consumed u), s)
kill_as id e Killed s = (Err refusals.AlreadyKilled, s)
kill_as id e (Held u n) s = (Ok (record { units_aborted = 1 }), with_ended id e Killed s)
kill_as id e other s = (Ok (record { units_aborted = 0 }), with_ended id e Killed s)

abbrev pub kill_at : ℕ → Option Element → State → Result KilledAnswer Refusal × State
kill_at id None s = (Err refusals.NotThere, s)
kill_at id (Some e) s = kill_as id e e.status s

abbrev pub kill_of : ℕ → State → Result KilledAnswer Refusal × State
kill_of id s = kill_at id (element_at id s.elements) s

-- no number is left for how often a parked element was taken in all its rounds
abbrev pub IsTried : ℕ → State → Type 0
IsTried id s = (n : ℕ) × (e : Element) × (element_at id s.elements ≡ Some e) × (e.status ≡ Parked n)
    × (256 ≤ e.earlier + n)

-- the element in another round, behind one of so many attempts
abbrev pub again : ℕ → Element → Element
again n e = record e { status = Waiting 0; rounds = e.rounds + 1; earlier = e.earlier + n }

-- the parked element has another round, if it had less than all
abbrev pub requeue_as : ℕ → Element → Status → State → Result ℕ Refusal × State
requeue_as id e (Parked n) s =
    if nat_lt e.rounds MAX_ROUNDS
    then (Ok (e.rounds + 1), with_change id e (again n e) s)
    else (Err refusals.NoRound, s)
requeue_as id e other s = (Err refusals.NotParked, s)

abbrev pub requeue_at : ℕ → Option Element → State → Result ℕ Refusal × State
requeue_at id None s = (Err refusals.NotThere, s)
requeue_at id (Some e) s = requeue_as id e e.status s

abbrev pub requeue_of : ℕ → State → Result ℕ Refusal × State
requeue_of id s = requeue_at id (element_at id s.elements) s

-- the reply is taken, by a unit of its own
abbrev pub collect_as : ℕ → Element → Status → State → Result Element Refusal × State
collect_as id e (Waiting n) s = (
  Ok e,
  with_unit (with_ended id e (Consumed s.units) s),
)
collect_as id e other s = (Err refusals.NotWaiting, s)

abbrev pub collect_at : ℕ → Option Element → State → Result Element Refusal × State
collect_at id None s = (Err refusals.NotThere, s)
collect_at id (Some e) s = if e.stage == REPLY_STAGE then collect_as id e e.status s else (Err refusals.BadStage, s)

abbrev pub collect_of : ℕ → State → Result Element Refusal × State
collect_of id s = collect_at id (element_at id s.elements) s

-- whether work on a request's element goes on that is no reply
abbrev pub is_open : ℕ → Entry → Bool
is_open root e = is_in_from alive_of root 0 e && not (e.1.stage == REPLY_STAGE)

-- each of these is killed
abbrev pub kill_all : List Entry → State → State
kill_all [] s = s
kill_all (e ∷ es) s = kill_all es (killed e.0 e.1 s)

-- all that is open of a request is killed, but for its replies
abbrev pub cancelled : ℕ → State → Result Cancelled Refusal × State
cancelled root s = (
  Ok (record { killed = length (filter (is_open root) s.elements) }),
  swept (with_end root (kill_all (filter (is_open root) s.elements) s)),
)

-- of a client's request, on which work goes on
abbrev pub cancel_by : Option ℕ → ℕ → State → Result Cancelled Refusal × State
cancel_by None root s =
    if is_over root s.elements
    then (Ok (record { killed = 0 }), s)
    else cancelled root s
cancel_by (Some unit) root s = (Err refusals.NotThere, s)

abbrev pub cancel_at : Option Element → ℕ → State → Result Cancelled Refusal × State
cancel_at None root s = (Err refusals.NotThere, s)
cancel_at (Some e) root s = cancel_by e.by root s

abbrev pub cancel_of : ℕ → State → Result Cancelled Refusal × State
cancel_of root s = cancel_at (element_at root s.elements) root s
