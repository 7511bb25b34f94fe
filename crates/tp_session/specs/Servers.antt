-- What a built-in server does: each step with its answer, computed.
use Rattle.std.specs.Prelude.{ℕ, ◌+◌, ◌==◌, Bool, true, false, is_some, if◌then◌else◌, List, length}
use Rattle.std.specs.Prelude.{Option, Some, None, Result, Ok, Err}
use Rattle.tp_model.specs.declared.types.Element.{Element as ModelElement}
use Rattle.tp_server.specs.Effect.{Effect, effect_of}
use Rattle.tp_server.specs.declared.order.Order.{Order}
use Rattle.tp_server.specs.declared.order.Order.TheVariants.{LeastFirst, InTurn}
use Rattle.tp_server.specs.declared.recipe.Declined.{Declined}
use Rattle.tp_store.specs.Calls.{abort_of, claim_from_of, claim_of, commit_of, take_of}
use Rattle.tp_store.specs.Elements.{element_at}
use Rattle.tp_store.specs.State.{State}
use Rattle.tp_store.specs.declared.answers.Ended.{Ended}
use Rattle.tp_store.specs.declared.answers.Ended.TheVariants as ended
use Rattle.tp_store.specs.declared.answers.Outcome.{Outcome}
use Rattle.tp_store.specs.declared.answers.Outcome.TheVariants.{Committed, Lost as WasLost}
use Rattle.tp_store.specs.declared.answers.Refusal.{Refusal}
use Rattle.tp_store.specs.declared.answers.Refusal.TheVariants.{BadStage}
use Rattle.tp_store.specs.declared.answers.Work.{Work}
use Rattle.tp_store.specs.declared.element.Element.{Element}
use Rattle.tp_answers.specs.declared.told.Told.{Told}
use Rattle.tp_answers.specs.declared.told.Told.TheVariants as told
use Rattle.tp_lines.specs.declared.line.Act.{Act}
use Rattle.tp_lines.specs.declared.line.Act.TheVariants as acts
use Rattle.tp_session.specs.Hands.{hand_of, held_of}
use Rattle.tp_session.specs.State.{ServerView}
use Rattle.tp_session.specs.declared.hand.Hand.{Hand}

-- what a server was answered, and what it left
pub record Served : Type 0 where
  pub told : Told
  pub server : ServerView
  pub store : State

abbrev pub nothing_done : Told → ServerView → State → Served
nothing_done told v s = record { told = told; server = v; store = s }

-- ---- what is in hand

-- it has nothing in hand
abbrev pub cleared : ServerView → ServerView
cleared v = record v { hand = None; is_prepared = false }

-- it has this in hand
abbrev pub holding : Work → ServerView → ServerView
holding w v = record v { hand = Some (hand_of w); is_prepared = false }

-- ---- claims

-- in turn it goes on behind what it took last so
abbrev pub goes_on : Order → ℕ → ServerView → ServerView
goes_on LeastFirst id v = v
goes_on InTurn id v = record v { from = id + 1 }

abbrev pub claim_in_order : Order → ServerView → State → Result (Option Work) Refusal × State
claim_in_order LeastFirst v s = claim_of v.recipe.stage s
claim_in_order InTurn v s = claim_from_of v.recipe.stage v.from s

abbrev pub claimed_as : Order → Result (Option Work) Refusal → State → ServerView → Served
claimed_as order (Ok (Some w)) s v = record {
  told = told.Work w.id w.unit w.attempt;
  server = holding w (goes_on order w.id v);
  store = s;
}
claimed_as order (Ok None) s v = nothing_done told.Idle v s
claimed_as order (Err why) s v = nothing_done told.Idle v s

abbrev pub claim_by : Order → ServerView → State → Served
claim_by order v s = let done = claim_in_order order v s in claimed_as order done.0 done.1 v

-- an element of another stage is none that it takes
abbrev pub is_other_stage : ℕ → Option Element → Bool
is_other_stage stage None = false
is_other_stage stage (Some e) = if e.stage == stage then false else true

abbrev pub taken_as : ℕ → Result Work Refusal → State → ServerView → Served
taken_as id (Ok w) s v = record {
  told = told.Work w.id w.unit w.attempt;
  server = holding w v;
  store = s;
}
taken_as id (Err why) s v = nothing_done (told.NotTaken id why) v s

abbrev pub take_by : ℕ → ServerView → State → Served
take_by id v s =
    if is_other_stage v.recipe.stage (element_at id s.elements)
    then nothing_done (told.NotTaken id BadStage) v s
    else (let done = take_of id s in taken_as id done.0 done.1 v)

-- ---- what becomes of work

-- recipes know of elements what the model does; they look at the body alone
abbrev pub for_recipe : List ℕ → ModelElement
for_recipe body = record { stage = 1; by = None; id = 0; root = 0; body = body }

-- what the recipe makes of an element
abbrev pub effect_on : ServerView → Element → Result Effect Declined
effect_on v e = effect_of v.recipe v.registers (for_recipe e.body)

-- the unit holds its element no more
abbrev pub lost : Hand → ServerView → State → Served
lost h v s = nothing_done (told.Lost h.id) (cleared v) s

-- a commit: the registers change with it
abbrev pub committed_as : Hand → List ℕ → Result Outcome Refusal → State → ServerView → Served
committed_as h registers (Ok (Committed first count)) s v = record {
  told = told.Done h.id h.unit first count;
  server = record (cleared v) { registers = registers };
  store = s;
}
committed_as h registers (Ok WasLost) s v = lost h v s
committed_as h registers (Err why) s v = lost h v s

abbrev pub commit_effect : Hand → Effect → ServerView → State → Served
commit_effect h f v s = let done = commit_of h.id h.unit f.drafts s in committed_as h f.registers done.0 done.1 v

-- what the recipe declines is given up
abbrev pub declined : Hand → Declined → ServerView → State → Served
declined h why v s =
    record { told = told.Declined h.id why; server = cleared v; store = (abort_of h.id h.unit s).1 }

abbrev pub settle_with : Hand → Result Effect Declined → ServerView → State → Served
settle_with h (Ok f) v s = commit_effect h f v s
settle_with h (Err why) v s = declined h why v s

abbrev pub settle_held : Hand → Option Element → ServerView → State → Served
settle_held h None v s = lost h v s
settle_held h (Some e) v s = settle_with h (effect_on v e) v s

-- ---- its steps

abbrev pub turn_as : Order → Result (Option Work) Refusal → State → ServerView → Served
turn_as order (Ok (Some w)) s v =
    settle_with (hand_of w) (effect_on v w.element) (cleared (goes_on order w.id v)) s
turn_as order (Ok None) s v = nothing_done told.Idle v s
turn_as order (Err why) s v = nothing_done told.Idle v s

abbrev pub turn_by : Order → ServerView → State → Served
turn_by order v s = let done = claim_in_order order v s in turn_as order done.0 done.1 v

-- with something in hand it takes nothing
abbrev pub if_free : (ServerView → State → Served) → ServerView → State → Served
if_free does v s = if is_some v.hand then nothing_done told.Busy v s else does v s

-- without something in hand there is nothing to end
abbrev pub if_held : (Hand → ServerView → State → Served) → Option Hand → ServerView → State → Served
if_held does None v s = nothing_done told.NoneOpen v s
if_held does (Some h) v s = does h v s

abbrev pub prepare_with : Hand → Result Effect Declined → ServerView → State → Served
prepare_with h (Ok f) v s = nothing_done told.Ready (record v { is_prepared = true }) s
prepare_with h (Err why) v s = declined h why v s

abbrev pub prepare_held : Hand → Option Element → ServerView → State → Served
prepare_held h None v s = lost h v s
prepare_held h (Some e) v s = prepare_with h (effect_on v e) v s

abbrev pub prepare_by : Hand → ServerView → State → Served
prepare_by h v s =
    if v.is_prepared then nothing_done told.Busy v s else prepare_held h (held_of h s) v s

abbrev pub commit_by : Hand → ServerView → State → Served
commit_by h v s = settle_held h (held_of h s) v s

abbrev pub aborted_as : Hand → Result Ended Refusal → State → ServerView → Served
aborted_as h (Ok ended.Aborted) s v = nothing_done (told.Aborted h.id) (cleared v) s
aborted_as h (Ok ended.AlreadyAborted) s v = nothing_done (told.Already h.id) (cleared v) s
aborted_as h (Err why) s v = nothing_done (told.Already h.id) (cleared v) s

abbrev pub abort_by : Hand → ServerView → State → Served
abort_by h v s = let done = abort_of h.id h.unit s in aborted_as h done.0 done.1 v

-- what is in hand is given up
abbrev pub given_up : Option Hand → State → State
given_up None s = s
given_up (Some h) s = (abort_of h.id h.unit s).1

abbrev pub drop_by : ServerView → State → Served
drop_by v s = record {
  told = told.Dropped;
  server = record (cleared v) { is_dropped = true };
  store = given_up v.hand s;
}

abbrev pub server_acts : Act → ServerView → State → Served
server_acts acts.Claim v s = if_free (claim_by LeastFirst) v s
server_acts acts.Next v s = if_free (claim_by InTurn) v s
server_acts (acts.Take id) v s = if_free (take_by id) v s
server_acts acts.Turn v s = if_free (turn_by LeastFirst) v s
server_acts acts.Prepare v s = if_held prepare_by v.hand v s
server_acts (acts.Commit drafts) v s = if_held commit_by v.hand v s
server_acts acts.Abort v s = if_held abort_by v.hand v s
server_acts acts.Drop v s = drop_by v s

-- one that was dropped does nothing
abbrev pub server_does : Act → ServerView → State → Served
server_does act v s = if v.is_dropped then nothing_done told.Ended v s else server_acts act v s

-- the outputs of a server's commit are its recipe's: a line that gives some is none
abbrev pub gives_outputs : Act → Bool
gives_outputs (acts.Commit drafts) = if length drafts.items == 0 then false else true
gives_outputs other = false
