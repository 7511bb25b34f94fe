-- The commands that name no server, worker or client.
use Rattle.std.specs.Prelude.{ℕ, zero, suc, ◌+◌, ◌-◌, ◌^◌, ◌==◌, if◌then◌else◌, List, [], ◌∷◌, ◌++◌}
use Rattle.std.specs.Prelude.{Option, Some, None, Ok, slice_get}
use Rattle.std.specs.List.{fold}
use Rattle.tp_store.specs.Calls.{cancel_of, collect_of, kill_of, release_of, requeue_of, submit_of}
use Rattle.tp_store.specs.Elements.{Entry, element_at}
use Rattle.tp_store.specs.Listing.{listed}
use Rattle.tp_store.specs.declared.group.Group.{Group}
use Rattle.tp_store.specs.declared.group.Group.TheVariants.{Family, Queue, Replies}
use Rattle.tp_store.specs.State.{State}
use Rattle.tp_store.specs.declared.answers.Refusal.TheVariants.{NotThere}
use Rattle.tp_store.specs.declared.counts.Counts.{Counts}
use Rattle.tp_store.specs.declared.element.Element.{Element}
use Rattle.tp_store.specs.declared.element.TheConstants.{LAST_STAGE}
use Rattle.tp_answers.specs.Answer.{answer_text, line}
use Rattle.tp_answers.specs.ElementTexts.{collected_text, errors_text, family_text, list_text, replies_text}
use Rattle.tp_answers.specs.OverviewTexts.{depths_text}
use Rattle.tp_answers.specs.declared.answer.Answer.{Answer}
use Rattle.tp_answers.specs.declared.answer.Answer.TheVariants as answer
use Rattle.tp_answers.specs.declared.overviews.Depth.{Depth}
use Rattle.tp_session.specs.Said.{Step, just, told_as}
use Rattle.tp_session.specs.State.{SessionState, with_store}
use Rattle.tp_session.specs.declared.requests.TheConstants.{MAX_LISTED}

-- ---- one call each

abbrev pub submit_step : ℕ → List ℕ → SessionState → Step
submit_step stage body s = told_as (λ id. answer.Submitted id) (submit_of stage body None s.store) s

abbrev pub kill_step : ℕ → SessionState → Step
kill_step id s = told_as (λ k. answer.Killed id k.units_aborted) (kill_of id s.store) s

abbrev pub cancel_step : ℕ → SessionState → Step
cancel_step root s = told_as (λ c. answer.Cancelled root c.killed) (cancel_of root s.store) s

abbrev pub requeue_step : ℕ → SessionState → Step
requeue_step id s = told_as (λ round. answer.Requeued id round) (requeue_of id s.store) s

abbrev pub release_step : ℕ → SessionState → Step
release_step id s = told_as (λ r. answer.Released id r.unit r.attempt) (release_of id s.store) s

-- ---- what is read

abbrev pub read_as : ℕ → Option Element → Answer
read_as id None = answer.Refused NotThere
read_as id (Some e) = answer.Read id e

abbrev pub read_step : ℕ → SessionState → Step
read_step id s = just (answer_text (read_as id (element_at id s.store.elements))) s

-- all elements of a group; no more than could be counted
abbrev pub all_of : Group → SessionState → List Entry
all_of group s = listed group 0 (2 ^ 64 - 1) s.store.elements

abbrev pub reply_step : ℕ → SessionState → Step
reply_step root s = just (replies_text root (all_of (Replies root) s)) s

abbrev pub family_step : ℕ → SessionState → Step
family_step root s = just (family_text root (all_of (Family root) s)) s

abbrev pub errors_step : SessionState → Step
errors_step s = just (errors_text (all_of (Queue 0) s)) s

abbrev pub list_step : ℕ → ℕ → SessionState → Step
list_step stage from s =
    just (list_text stage (listed (Queue stage) from MAX_LISTED s.store.elements)) s

-- each of these replies is taken
abbrev pub with_collected : List Entry → State → State
with_collected replies store = fold (λ t e. (collect_of e.0 t).1) store replies

abbrev pub collect_step : ℕ → SessionState → Step
collect_step root s = let replies = all_of (Replies root) s in
    Ok (line (collected_text root replies), with_store (with_collected replies s.store) s)

-- ---- figures

abbrev pub count_step : SessionState → Step
count_step s = just (answer_text (answer.Count s.store.tally.total)) s

-- with an element in somebody's hand the account is open
abbrev pub account_step : SessionState → Step
account_step s =
    if s.store.tally.total.held == 0
    then just (answer_text (answer.Account s.store.tally.total)) s
    else just (answer_text answer.Busy) s

-- how many of a stage wait, are held and are parked
abbrev pub depth_of : ℕ → Option Counts → Depth
depth_of stage None = record { stage = stage; waiting = 0; held = 0; parked = 0 }
depth_of stage (Some c) = record { stage = stage; waiting = c.waiting; held = c.held; parked = c.parked }

-- those of the stages below this one
unfoldable pub depths_below : ℕ → State → List Depth
depths_below zero s = []
depths_below (suc stage) s =
    depths_below stage s ++ depth_of stage (slice_get s.tally.stages stage) ∷ []

abbrev pub depth_step : SessionState → Step
depth_step s = just (depths_text (depths_below (LAST_STAGE + 1) s.store)) s
