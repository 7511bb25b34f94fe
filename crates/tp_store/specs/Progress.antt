-- What is accepted is never stuck.
use Rattle.std.specs.Prelude.{◌≡◌, ◌≢◌, ℕ, ◌+◌, ◌<◌, ◌≤◌, true, Option, Some, None, Ok, IsOk, List, length}
use Rattle.std.specs.Prelude.{slice_get}
use Rattle.tp_model.specs.Drafts.{DraftView}
use Rattle.tp_store.specs.declared.answers.Work.{Work}
use Rattle.tp_store.specs.declared.answers.Outcome.TheVariants.{Committed}
use Rattle.tp_store.specs.declared.answers.Ended.TheVariants.{Aborted}
use Rattle.tp_store.specs.declared.element.TheConstants.{MAX_ROUNDS, REPLY_STAGE}
use Rattle.tp_store.specs.declared.element.Element.{Element}
use Rattle.tp_store.specs.declared.element.Status.TheVariants.{Waiting, Held, Parked}
use Rattle.tp_store.specs.Calls.{abort_of, again, alive_in, claim_from_of, claim_of, collect_of, commit_of, given_up}
use Rattle.tp_store.specs.Calls.{is_server_stage, kill_of, of_client, of_unit, requeue_of, submit_of, take_of}
use Rattle.tp_store.specs.Calls.{work_on}
use Rattle.tp_store.specs.Elements.{element_at, is_alive, standing}
use Rattle.tp_store.specs.Soundness.{IsSound}
use Rattle.tp_store.specs.State.{State, made}

-- an element that waits, for so many times given up
pub record Waits (s : State) (id n : ℕ) (e : Element) : Type 0 where
  pub found : element_at id s.elements ≡ Some e
  pub waits : e.status ≡ Waiting n

-- a claim of a stage in which an element waits is not idle
abbrev pub NeverIdle : Type 0
NeverIdle = (s : State) (id n : ℕ) (e : Element) → Waits s id n e → (claim_of e.stage s).0 ≢ Ok None

-- the work is on an element of this stage that waited, and on the first one
pub record IsOnFirst (s : State) (stage : ℕ) (work : Work) : Type 0 where
  pub attempts : ℕ
  pub old : Element
  pub waited : Waits s work.id attempts old
  pub stage_is : old.stage ≡ stage
  pub attempt : work.attempt ≡ attempts + 1
  pub held : work.element ≡ standing (Held work.unit work.attempt) old
  pub first : (id n : ℕ) (e : Element) → Waits s id n e → e.stage ≡ stage → work.id ≤ id

-- but it hands out the one with the least id
abbrev pub ClaimsFirst : Type 0
ClaimsFirst = (s : State) (id n : ℕ) (e : Element) → IsSound s → Waits s id n e → is_server_stage e.stage ≡ true
    → (work : Work) × ((claim_of e.stage s).0 ≡ Ok (Some work)) × IsOnFirst s e.stage work

-- what is handed out is held by its unit from then on
abbrev pub IsHandedOut : State → Work → Type 0
IsHandedOut s work = (element_at work.id s.elements ≡ Some work.element)
    × (work.element.status ≡ Held work.unit work.attempt)

abbrev pub HandsOut : Type 0
HandsOut = (s : State) (stage from id : ℕ) (work : Work) → IsSound s
    → ((claim_of stage s).0 ≡ Ok (Some work) → IsHandedOut (claim_of stage s).1 work)
    × ((claim_from_of stage from s).0 ≡ Ok (Some work) → IsHandedOut (claim_from_of stage from s).1 work)
    × ((take_of id s).0 ≡ Ok work → IsHandedOut (take_of id s).1 work)

-- an element that waits can be taken, a reply alone not
abbrev pub TakesWaiting : Type 0
TakesWaiting = (s : State) (id n : ℕ) (e : Element) → Waits s id n e → e.stage ≢ REPLY_STAGE
    → (take_of id s).0 ≡ Ok (work_on s.units id n (standing (Held s.units (n + 1)) e))

-- it can be collected where it is one
abbrev pub CollectsReplies : Type 0
CollectsReplies = (s : State) (id n : ℕ) (e : Element) → Waits s id n e → e.stage ≡ REPLY_STAGE
    → (collect_of id s).0 ≡ Ok e

-- an element that a unit holds, as the `attempt`-th of its round
pub record IsHeld (s : State) (id unit attempt : ℕ) (e : Element) : Type 0 where
  pub found : element_at id s.elements ≡ Some e
  pub held : e.status ≡ Held unit attempt

-- the unit that holds an element can commit, whatever its outputs are
abbrev pub CommitsHeld : Type 0
CommitsHeld = (s : State) (id unit n : ℕ) (e : Element) (drafts : List DraftView) → IsHeld s id unit n e
    → (commit_of id unit drafts s).0 ≡ Ok (Committed s.next (length drafts))

-- each of them waits then, under the next ids
abbrev pub OutputsWait : Type 0
OutputsWait = (s : State) (id unit n : ℕ) (e : Element) (drafts : List DraftView) (k : ℕ) (d : DraftView)
    → IsSound s → IsHeld s id unit n e → slice_get drafts k ≡ Some d
    → element_at (s.next + k) (commit_of id unit drafts s).1.elements ≡ Some (made (of_unit unit e) d)

-- it can be aborted, and the element has been given up then
abbrev pub AbortsHeld : Type 0
AbortsHeld = (s : State) (id unit n : ℕ) (e : Element) → IsHeld s id unit n e
    → ((abort_of id unit s).0 ≡ Ok Aborted)
    × (element_at id (abort_of id unit s).1.elements ≡ Some (standing (given_up s.limits.attempts n) e))

-- what is parked can be requeued while it has rounds, and waits then
abbrev pub RequeuesParked : Type 0
RequeuesParked = (s : State) (id n : ℕ) (e : Element) → element_at id s.elements ≡ Some e
    → e.status ≡ Parked n → e.rounds < MAX_ROUNDS
    → ((requeue_of id s).0 ≡ Ok (e.rounds + 1))
    × (element_at id (requeue_of id s).1.elements
    ≡ Some (again n e))

-- what is alive can be killed
abbrev pub KillsAlive : Type 0
KillsAlive = (s : State) (id : ℕ) (e : Element) → element_at id s.elements ≡ Some e → is_alive e.status ≡ true
    → IsOk (kill_of id s).0

-- a request for a server's stage is taken in where there is room, and waits then
abbrev pub SubmitsWait : Type 0
SubmitsWait = (s : State) (stage : ℕ) (body : List ℕ) (owner : Option ℕ) → IsSound s
    → is_server_stage stage ≡ true → alive_in s < s.limits.most
    → ((submit_of stage body owner s).0 ≡ Ok s.next)
    × (element_at s.next (submit_of stage body owner s).1.elements
    ≡ Some (made (of_client s.next owner) (record { stage = stage; body = body })))
