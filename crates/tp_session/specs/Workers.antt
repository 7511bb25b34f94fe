-- What a worker does: each step with its answer, computed.
use Rattle.std.specs.Prelude.{ℕ, ◌+◌, Bool, true, false, is_some, if◌then◌else◌, List, Option, Some, None}
use Rattle.std.specs.Prelude.{Result, Ok, Err}
use Rattle.tp_model.specs.Drafts.{DraftView}
use Rattle.tp_store.specs.Calls.{abort_of, claim_from_of, claim_of, commit_of, take_of}
use Rattle.tp_store.specs.State.{State}
use Rattle.tp_store.specs.declared.answers.Ended.{Ended}
use Rattle.tp_store.specs.declared.answers.Ended.TheVariants as ended
use Rattle.tp_store.specs.declared.answers.Outcome.{Outcome}
use Rattle.tp_store.specs.declared.answers.Outcome.TheVariants.{Committed, Lost as WasLost}
use Rattle.tp_store.specs.declared.answers.Refusal.{Refusal}
use Rattle.tp_store.specs.declared.answers.Work.{Work}
use Rattle.tp_answers.specs.declared.told.Told.{Told}
use Rattle.tp_answers.specs.declared.told.Told.TheVariants as told
use Rattle.tp_lines.specs.declared.line.Act.{Act}
use Rattle.tp_lines.specs.declared.line.Act.TheVariants as acts
use Rattle.tp_lines.specs.declared.line.UnitEnd.{UnitEnd}
use Rattle.tp_lines.specs.declared.line.UnitEnd.TheVariants as ends
use Rattle.tp_session.specs.Hands.{hand_of, tries_in}
use Rattle.tp_session.specs.declared.hand.Hand.{Hand}
use Rattle.tp_session.specs.declared.worker.Worker.{Worker}

-- what a worker was answered, and what it left
pub record Worked : Type 0 where
  pub told : Told
  pub worker : Worker
  pub store : State

abbrev pub unchanged : Told → Worker → State → Worked
unchanged told w s = record { told = told; worker = w; store = s }

-- ---- claims

abbrev pub took : Work → Told
took work = told.Took work.id work.unit work.attempt work.element.root work.element.body (tries_in work)

abbrev pub has_taken : Work → Worker → State → Worked
has_taken work w s = record { told = took work; worker = record w { hand = Some (hand_of work) }; store = s }

abbrev pub claimed : Result (Option Work) Refusal → State → Worker → Worked
claimed (Ok (Some work)) s w = has_taken work w s
claimed (Ok None) s w = unchanged told.Idle w s
claimed (Err why) s w = unchanged told.Idle w s

abbrev pub claims : Worker → State → Worked
claims w s = let done = claim_of w.stage s in claimed done.0 done.1 w

-- the next one comes behind this
abbrev pub claimed_next : Result (Option Work) Refusal → State → Worker → Worked
claimed_next (Ok (Some work)) s w = has_taken work (record w { from = work.id + 1 }) s
claimed_next (Ok None) s w = unchanged told.Idle w s
claimed_next (Err why) s w = unchanged told.Idle w s

abbrev pub claims_next : Worker → State → Worked
claims_next w s = let done = claim_from_of w.stage w.from s in claimed_next done.0 done.1 w

abbrev pub taken : ℕ → Result Work Refusal → State → Worker → Worked
taken id (Ok work) s w = has_taken work w s
taken id (Err why) s w = unchanged (told.NotTaken id why) w s

abbrev pub takes_id : ℕ → Worker → State → Worked
takes_id id w s = let done = take_of id s in taken id done.0 done.1 w

-- with something in hand it takes nothing
abbrev pub if_idle : (Worker → State → Worked) → Worker → State → Worked
if_idle does w s = if is_some w.hand then unchanged told.Busy w s else does w s

-- ---- ends

-- its unit ended so
abbrev pub has_ended : UnitEnd → Worker → Worker
has_ended how w = record w { hand = None; end = Some how }

abbrev pub committed : Hand → Result Outcome Refusal → State → Worker → Worked
committed h (Ok (Committed first count)) s w =
    unchanged (told.Done h.id h.unit first count) (has_ended (ends.Done h.id h.unit first count) w) s
committed h (Ok WasLost) s w = unchanged (told.Lost h.id) (has_ended (ends.Lost h.id) w) s
committed h (Err why) s w = unchanged (told.Lost h.id) (has_ended (ends.Lost h.id) w) s

abbrev pub commits : List DraftView → Option Hand → Worker → State → Worked
commits drafts None w s = unchanged told.NoneOpen w s
commits drafts (Some h) w s = let done = commit_of h.id h.unit drafts s in committed h done.0 done.1 w

abbrev pub aborted : Hand → Result Ended Refusal → State → Worker → Worked
aborted h (Ok ended.Aborted) s w = unchanged (told.Aborted h.id) (has_ended (ends.Aborted h.id) w) s
aborted h (Ok ended.AlreadyAborted) s w = unchanged (told.Already h.id) (has_ended (ends.Lost h.id) w) s
aborted h (Err why) s w = unchanged (told.Already h.id) (has_ended (ends.Lost h.id) w) s

abbrev pub aborts : Option Hand → Worker → State → Worked
aborts None w s = unchanged told.NoneOpen w s
aborts (Some h) w s = let done = abort_of h.id h.unit s in aborted h done.0 done.1 w

-- ---- all of it

abbrev pub worker_does : Act → Worker → State → Worked
worker_does acts.Claim w s = if_idle claims w s
worker_does acts.Next w s = if_idle claims_next w s
worker_does (acts.Take id) w s = if_idle (takes_id id) w s
worker_does (acts.Commit drafts) w s = commits drafts.items w.hand w s
worker_does acts.Abort w s = aborts w.hand w s
worker_does other w s = unchanged told.NoneOpen w s

-- what a server alone does
abbrev pub is_of_server : Act → Bool
is_of_server acts.Turn = true
is_of_server acts.Prepare = true
is_of_server acts.Drop = true
is_of_server other = false
