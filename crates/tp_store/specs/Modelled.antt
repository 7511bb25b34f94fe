-- A run of a store as a history of the model. The model's rows belong to passes, each of which has one open
-- unit: so unit u of the store is the only unit of pass u + 1 there, and clients are pass 0. An element is in
-- the part of the pass that made it, in the row of its id.
use Rattle.std.specs.Prelude.{◌≡◌, ◌⊎◌, ℕ, ◌+◌, ◌*◌, ◌==◌, ◌<◌, ◌≤◌, nat_le, if◌then◌else◌, Option, Some, None}
use Rattle.std.specs.Prelude.{Result, Ok, Err, List, [], ◌∷◌, ◌++◌, length, filter, true, false}
use Rattle.std.specs.List.{AllByRecursion}
use Rattle.std.specs.Option.{option_map}
use Rattle.tp_model.specs.Drafts.{DraftView}
use Rattle.tp_model.specs.History.{element_of, rounds, status_of}
use Rattle.tp_model.specs.Steps.{IsBody, IsLegal}
use Rattle.tp_model.specs.declared.event.Event.{Event}
use Rattle.tp_model.specs.declared.event.Event.TheVariants as event
use Rattle.tp_model.specs.declared.types.Element.{Element as ModelElement}
use Rattle.tp_model.specs.declared.types.Limits.{Limits as ModelLimits}
use Rattle.tp_model.specs.declared.types.Status.{Status as ModelStatus}
use Rattle.tp_model.specs.declared.types.Status.TheVariants as model
use Rattle.tp_model.specs.declared.types.TheConstants.{MAX_OUTPUTS, MAX_STAGE}
use Rattle.tp_store.specs.declared.answers.Ended.{Ended}
use Rattle.tp_store.specs.declared.answers.Ended.TheVariants as ended
use Rattle.tp_store.specs.declared.answers.Cancelled.{Cancelled}
use Rattle.tp_store.specs.declared.answers.Outcome.{Outcome}
use Rattle.tp_store.specs.declared.answers.Outcome.TheVariants as outcomes
use Rattle.tp_store.specs.declared.answers.Refusal.{Refusal}
use Rattle.tp_store.specs.declared.answers.Released.{Released}
use Rattle.tp_store.specs.declared.answers.Work.{Work}
use Rattle.tp_store.specs.declared.births.Origin.{Origin}
use Rattle.tp_store.specs.declared.element.Element.{Element}
use Rattle.tp_store.specs.declared.element.Status.{Status}
use Rattle.tp_store.specs.declared.element.Status.TheVariants.{Waiting, Held, Consumed, Parked, Killed}
use Rattle.tp_store.specs.declared.element.TheConstants.{REPLY_STAGE}
use Rattle.tp_store.specs.declared.store.Limits.{Limits}
use Rattle.tp_store.specs.Calls.{abort_of, cancel_of, claim_from_of, claim_of, collect_of, commit_of, is_open}
use Rattle.tp_store.specs.Calls.{of_client, of_unit, release_of, requeue_of, submit_of, take_of}
use Rattle.tp_store.specs.Elements.{Entry, element_at}
use Rattle.tp_store.specs.Ends.{is_over}
use Rattle.tp_store.specs.Runs.{after, Call, run}
use Rattle.tp_store.specs.Runs.{Submit, Claim, ClaimFrom, Take, Commit, Abort, Release, Kill, Cancel, Requeue}
use Rattle.tp_store.specs.Runs.{Collect, SetLimits}
use Rattle.tp_store.specs.State.{State, made, start}

-- ---- names

-- the pass that made an element, and its only unit
abbrev pub part_of : Option ℕ → ℕ
part_of None = 0
part_of (Some u) = u + 1

-- the row of the element with this id, where each part has so many rows
abbrev pub row : ℕ → Option ℕ → ℕ → ℕ
row rows by id = part_of by * rows + id

-- the model has 14 stages of servers: all further ones are the last of them
abbrev pub as_stage : ℕ → ℕ
as_stage stage = if nat_le stage REPLY_STAGE then stage else MAX_STAGE

abbrev pub as_element : ℕ → ℕ → Element → ModelElement
as_element rows id e = record {
  stage = as_stage e.stage;
  by = option_map (λ u. u + 1) e.by;
  id = row rows e.by id;
  root = e.root;
  body = e.body;
}

-- the model has no units that take replies: a reply that is collected is killed there
abbrev pub as_status : ℕ → Status → ModelStatus
as_status stage (Waiting n) = model.Waiting n
as_status stage (Held u n) = model.Held (u + 1) n
as_status stage (Consumed u) = if stage == REPLY_STAGE then model.Killed else model.Consumed (u + 1)
as_status stage (Parked n) = model.Parked n
as_status stage Killed = model.Killed

-- ---- what happens in a call, by its answer

-- the elements that drafts become, from this id on
abbrev pub outputs : ℕ → ℕ → Origin → List DraftView → List ModelElement
outputs rows id from [] = []
outputs rows id from (d ∷ ds) = as_element rows id (made from d) ∷ outputs rows (id + 1) from ds

abbrev pub submitted : ℕ → ℕ → List ℕ → Option ℕ → Result ℕ Refusal → List Event
submitted rows stage body owner (Ok id) =
    event.Enqueue 0 (as_element rows id (made (of_client id owner) (record { stage = stage; body = body }))) ∷ []
submitted rows stage body owner (Err why) = []

abbrev pub taken : ℕ → Result Work Refusal → List Event
taken rows (Ok w) = event.Claim (w.unit + 1) (w.unit + 1) (row rows w.element.by w.id) w.attempt ∷ []
taken rows (Err why) = []

abbrev pub claimed : ℕ → Result (Option Work) Refusal → List Event
claimed rows (Ok (Some w)) = taken rows (Ok w)
claimed rows (Ok None) = []
claimed rows (Err why) = []

abbrev pub committed : ℕ → ℕ → Option Element → List DraftView → Result Outcome Refusal → List Event
committed rows unit (Some e) drafts (Ok (outcomes.Committed first count)) =
    event.Commit (unit + 1) (unit + 1) (outputs rows first (of_unit unit e) drafts) ∷ []
committed rows unit e drafts other = []

-- a client may abort a unit as any pass may
abbrev pub aborted : ℕ → Result Ended Refusal → List Event
aborted unit (Ok ended.Aborted) = event.Abort 0 (unit + 1) ∷ []
aborted unit other = []

abbrev pub released : Result Released Refusal → List Event
released (Ok r) = event.Abort 0 (r.unit + 1) ∷ []
released (Err why) = []

-- the unit that holds an element is aborted before it is killed
abbrev pub killed_as : ℕ → ℕ → Element → Status → List Event
killed_as rows id e (Held u n) = event.Abort 0 (u + 1) ∷ event.Kill 0 (row rows e.by id) ∷ []
killed_as rows id e (Waiting n) = event.Kill 0 (row rows e.by id) ∷ []
killed_as rows id e (Parked n) = event.Kill 0 (row rows e.by id) ∷ []
killed_as rows id e other = []

abbrev pub killed_at : ℕ → ℕ → Option Element → List Event
killed_at rows id None = []
killed_at rows id (Some e) = killed_as rows id e e.status

abbrev pub all_killed : ℕ → List Entry → List Event
all_killed rows [] = []
all_killed rows (e ∷ es) = killed_as rows e.0 e.1 e.1.status ++ all_killed rows es

abbrev pub all_cancelled : ℕ → ℕ → State → Result Cancelled Refusal → List Event
all_cancelled rows root s (Ok answer) = all_killed rows (filter (is_open root) s.elements)
all_cancelled rows root s (Err why) = []

abbrev pub requeued : ℕ → ℕ → Option Element → Result ℕ Refusal → List Event
requeued rows id (Some e) (Ok round) = event.Requeue 0 (row rows e.by id) round ∷ []
requeued rows id e other = []

abbrev pub collected : ℕ → ℕ → Result Element Refusal → List Event
collected rows id (Ok e) = event.Kill 0 (row rows e.by id) ∷ []
collected rows id (Err why) = []

abbrev pub events : ℕ → Call → State → List Event
events rows (Submit stage body owner) s = submitted rows stage body owner (submit_of stage body owner s).0
events rows (Claim stage) s = claimed rows (claim_of stage s).0
events rows (ClaimFrom stage from) s = claimed rows (claim_from_of stage from s).0
events rows (Take id) s = taken rows (take_of id s).0
events rows (Commit id unit drafts) s = committed rows unit (element_at id s.elements) drafts
    (commit_of id unit drafts s).0
events rows (Abort id unit) s = aborted unit (abort_of id unit s).0
events rows (Release id) s = released (release_of id s).0
events rows (Kill id) s = killed_at rows id (element_at id s.elements)
events rows (Cancel root) s = all_cancelled rows root s (cancel_of root s).0
events rows (Requeue id) s = requeued rows id (element_at id s.elements) (requeue_of id s).0
events rows (Collect id) s = collected rows id (collect_of id s).0
events rows (SetLimits limits) s = []

-- the history of a run
abbrev pub history : ℕ → List Call → State → List Event
history rows [] s = []
history rows (call ∷ calls) s = events rows call s ++ history rows calls (after call s)

-- ---- the law

-- a call as the model knows it, where so many attempts are allowed: bodies are whole, no stage is 0, there are at
-- most 4 outputs, and the number of attempts stays
abbrev pub IsModelled : ℕ → Call → Type 0
IsModelled attempts (Submit stage body owner) = IsBody body
IsModelled attempts (SetLimits limits) = limits.attempts ≡ attempts
IsModelled attempts (Commit id unit drafts) = (length drafts ≤ MAX_OUTPUTS)
    × AllByRecursion (λ d. (1 ≤ d.stage) × IsBody d.body) drafts
IsModelled attempts other = Unit {0}

-- the model's limits leave room for the numbers that the store has drawn
pub record HasRoom (l : ModelLimits) (s : State) : Type 0 where
  pub rows : s.next ≤ l.rows
  pub parts : s.units < l.parts
  pub units : l.units ≡ 1
  pub attempts : l.attempts ≡ s.limits.attempts

-- the history says of an element what it is
pub record Tells (l : ModelLimits) (h : List Event) (id : ℕ) (e : Element) : Type 0 where
  pub contents : element_of h (row l.rows e.by id) ≡ Some (as_element l.rows id e)
  pub status : status_of l.attempts h (row l.rows e.by id) ≡ as_status e.stage e.status
  pub rounds : rounds h (row l.rows e.by id) ≡ e.rounds

-- limits that do
abbrev pub limits_for : State → ModelLimits
limits_for s = record {
  parts = s.units + 1;
  rows = s.next;
  units = 1;
  attempts = s.limits.attempts;
  spare = 0;
}

abbrev pub HaveRoom : Type 0
HaveRoom = (s : State) → HasRoom (limits_for s) s

-- an element of the history is there
pub record IsThere (l : ModelLimits) (s : State) (x : ModelElement) : Type 0 where
  pub id : ℕ
  pub one : Element
  pub found : element_at id s.elements ≡ Some one
  pub is : x ≡ as_element l.rows id one

-- the history is legal, says of each element what it is, and has no other elements but of requests that are over
pub record IsHistory (l : ModelLimits) (h : List Event) (s : State) : Type 0 where
  pub legal : IsLegal l h
  pub tells : (id : ℕ) (e : Element) → element_at id s.elements ≡ Some e → Tells l h id e
  pub whole : (i : ℕ) (x : ModelElement) → element_of h i ≡ Some x
      → IsThere l s x ⊎ (is_over x.root s.elements ≡ true)

-- each run of such calls has such a history
abbrev pub RunsAreHistories : Type 0
RunsAreHistories = (limits : Limits) (calls : List Call) (l : ModelLimits) → AllByRecursion (IsModelled limits.attempts) calls
    → let s = run calls (start limits) in
    HasRoom l s → IsHistory l (history l.rows calls (start limits)) s

-- an element of this request, which a unit consumed
pub record IsParent (s : State) (unit root : ℕ) : Type 0 where
  pub id : ℕ
  pub one : Element
  pub found : element_at id s.elements ≡ Some one
  pub root_is : one.root ≡ root
  pub consumed : one.status ≡ Consumed unit

-- so a request on which work goes on is a tree: each element of it is a client's, or was made by the unit
-- that consumed another one of it
abbrev pub FamiliesAreTrees : Type 0
FamiliesAreTrees =
    (limits : Limits) (calls : List Call) (id : ℕ) (e : Element) → AllByRecursion (IsModelled limits.attempts) calls
    → let s = run calls (start limits) in
    element_at id s.elements ≡ Some e → is_over e.root s.elements ≡ false
    → ((e.root ≡ id) × (e.by ≡ None)) ⊎ ((u : ℕ) × (e.by ≡ Some u) × IsParent s u e.root)
