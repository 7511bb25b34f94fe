-- What the script's own client is answered where nobody else acts: each command with its line, computed. The
-- client acts through pass 0.
use Rattle.std.specs.Prelude.{ℕ, zero, suc, ◌==◌, ◌&&◌, if◌then◌else◌, List, [], ◌∷◌, ◌++◌, Bool, Option}
use Rattle.std.specs.Prelude.{Some, None, Result, Ok, Err}
use Rattle.std.specs.List.{fold}
use Rattle.tp_model.specs.declared.types.TheConstants.{REPLY_STAGE}
use Rattle.tp_model.specs.declared.types.Cancelled.{Cancelled}
use Rattle.tp_model.specs.declared.types.Counts.{Counts}
use Rattle.tp_model.specs.declared.types.Element.{Element}
use Rattle.tp_model.specs.declared.types.Killed.{Killed}
use Rattle.tp_model.specs.declared.types.Look.{Look}
use Rattle.tp_model.specs.declared.types.Refusal.{Refusal}
use Rattle.tp_model.specs.declared.types.Released.{Released}
use Rattle.tp_model.specs.Accounts.{one_more}
use Rattle.tp_model.specs.Counts.{is_parked, is_waiting}
use Rattle.tp_model.specs.Steps.{rows_of}
use Rattle.tp_plain.specs.Computed.{submit_of, kill_of, cancel_of, requeue_of, release_of, collect_of}
use Rattle.tp_plain.specs.Computed.{read_of}
use Rattle.tp_plain.specs.OneThread as thread
use Rattle.tp_report.specs.declared.answer.Answer.{Answer}
use Rattle.tp_report.specs.declared.answer.Answer.TheVariants as answer
use Rattle.tp_report.specs.Answer.{answer_text, collected_text, counts_text, errors_text, family_text, line}
use Rattle.tp_report.specs.Answer.{replies_text}
use Rattle.tp_script.specs.declared.script.ClientAct.{ClientAct}
use Rattle.tp_script.specs.declared.script.ClientAct.TheVariants as acts

-- the pass of the script's own client
abbrev pub client : ℕ
client = 0

-- ---- one call

abbrev pub submitted_as : Result ℕ Refusal → Answer
submitted_as (Ok id) = answer.Submitted id
submitted_as (Err why) = answer.Refused why

abbrev pub killed_as : ℕ → Result Killed Refusal → Answer
killed_as id (Ok killed) = answer.Killed id killed.units_aborted
killed_as id (Err why) = answer.Refused why

abbrev pub cancelled_as : ℕ → Result Cancelled Refusal → Answer
cancelled_as root (Ok cancelled) = answer.Cancelled root cancelled.killed
cancelled_as root (Err why) = answer.Refused why

abbrev pub requeued_as : ℕ → Result ℕ Refusal → Answer
requeued_as id (Ok round) = answer.Requeued id round
requeued_as id (Err why) = answer.Refused why

abbrev pub released_as : ℕ → Result Released Refusal → Answer
released_as id (Ok released) = answer.Released id released.unit released.attempt
released_as id (Err why) = answer.Refused why

abbrev pub read_as : Result Look Refusal → Answer
read_as (Ok look) = answer.Read look
read_as (Err why) = answer.Refused why

-- ---- listings

-- what this picks of a read, if it picks anything
abbrev pub picked : {A : Type 0} → (Look → Option A) → Result Look Refusal → Option A
picked pick (Ok look) = pick look
picked pick (Err why) = None

-- a list, and one more if there is one
abbrev pub with_last : {A : Type 0} → List A → Option A → List A
with_last xs (Some x) = xs ++ x ∷ []
with_last xs None = xs

-- what this picks of the elements with ids below a bound, in ascending order
unfoldable pub picked_below : {A : Type 0} → (Look → Option A) → thread.State → ℕ → List A
picked_below pick m zero = []
picked_below pick m (suc id) = with_last (picked_below pick m id) (picked pick (read_of m id))

-- what it picks of all elements
abbrev pub picked_of : {A : Type 0} → (Look → Option A) → thread.State → List A
picked_of pick m = picked_below pick m (rows_of m.limits)

-- whether a look shows a reply to this request that waits
abbrev pub is_reply : ℕ → Look → Bool
is_reply root look = (look.element.stage == REPLY_STAGE) && (look.element.root == root)
    && is_waiting look.status

-- the reply that it shows then
abbrev pub reply_shown : ℕ → Look → Option Element
reply_shown root look = if is_reply root look then Some look.element else None

-- an element of this request
abbrev pub member_in : ℕ → Look → Option Look
member_in root look = if look.element.root == root then Some look else None

-- a parked element
abbrev pub parked_in : Look → Option ℕ
parked_in look = if is_parked look.status then Some look.element.id else None

-- the replies to a request
abbrev pub replies_of : ℕ → thread.State → List Element
replies_of root m = picked_of (reply_shown root) m

-- the state when the client took these replies, one after another
abbrev pub with_collected : thread.State → List Element → thread.State
with_collected m replies = fold (λ t e. (collect_of t client e.id).1) m replies

-- these counts, and one more for what was read
abbrev pub count_read : Result Look Refusal → Counts → Counts
count_read (Ok look) c = one_more look.status c
count_read (Err why) c = c

-- how the elements with ids below a bound stand
unfoldable pub counts_below : thread.State → ℕ → Counts
counts_below m zero = record { waiting = 0; held = 0; consumed = 0; parked = 0; killed = 0 }
counts_below m (suc id) = count_read (read_of m id) (counts_below m id)

-- how many elements have each status
abbrev pub counts_of : thread.State → Counts
counts_of m = counts_below m (rows_of m.limits)

-- ---- each command

-- a call's line, and what it left
abbrev pub told_as : {R : Type 0} → (R → Answer) → R × thread.State → List ℕ × thread.State
told_as tell (result, m) = (line (answer_text (tell result)), m)

abbrev pub client_step : ClientAct → thread.State → List ℕ × thread.State
client_step (acts.Submit stage body) m = told_as submitted_as (submit_of m client stage body)
client_step (acts.Kill id) m = told_as (killed_as id) (kill_of m client id)
client_step (acts.Cancel root) m = told_as (cancelled_as root) (cancel_of m client root)
client_step (acts.Requeue id) m = told_as (requeued_as id) (requeue_of m client id)
client_step (acts.Release id) m = told_as (released_as id) (release_of m client id)
client_step (acts.Read id) m = (line (answer_text (read_as (read_of m id))), m)
client_step (acts.Reply root) m = (line (replies_text root (replies_of root m)), m)
client_step (acts.Collect root) m =
    (line (collected_text root (replies_of root m)), with_collected m (replies_of root m))
client_step (acts.Family root) m = (line (family_text root (picked_of (member_in root) m)), m)
client_step acts.Errors m = (line (errors_text (picked_of parked_in m)), m)
client_step acts.Count m = (line (counts_text (counts_of m)), m)
