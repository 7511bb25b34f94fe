-- What a server's desk does where nobody else acts: each step with its answer, computed. A desk works through
-- a pass of its own.
use Rattle.std.specs.Prelude.{ℕ, ◌==◌, ◌&&◌, nat_lt, not, Bool, true, false, is_some, if◌then◌else◌, List}
use Rattle.std.specs.Prelude.{Option, Some, None, Result, Ok, Err}
use Rattle.tp_model.specs.declared.types.Work.{Work}
use Rattle.tp_model.specs.declared.types.Claimed.{Claimed}
use Rattle.tp_model.specs.declared.types.Claimed.TheVariants as claimed
use Rattle.tp_model.specs.declared.types.Outcome.{Outcome}
use Rattle.tp_model.specs.declared.types.Outcome.TheVariants as outcome
use Rattle.tp_model.specs.declared.types.Ended.{Ended}
use Rattle.tp_model.specs.declared.types.Ended.TheVariants as ended
use Rattle.tp_model.specs.declared.types.Element.{Element}
use Rattle.tp_model.specs.declared.types.Refusal.{Refusal}
use Rattle.tp_model.specs.declared.types.Refusal.TheVariants as refusals
use Rattle.tp_model.specs.History.{element_of}
use Rattle.tp_plain.specs.Computed.{claim_id_of, claim_of_stage, claim_next_of_stage, abort_of, commit_of}
use Rattle.tp_plain.specs.OneThread as thread
use Rattle.tp_plain.specs.OneThread.{pass_at}
use Rattle.tp_server.specs.declared.recipe.Recipe.{Recipe}
use Rattle.tp_server.specs.declared.recipe.Declined.{Declined}
use Rattle.tp_server.specs.Effect.{Effect, effect_of}
use Rattle.tp_script.specs.declared.script.DeskAct.{DeskAct}
use Rattle.tp_script.specs.declared.script.DeskAct.TheVariants as acts
use Rattle.tp_server.specs.declared.order.Order.{Order}
use Rattle.tp_server.specs.declared.order.Order.TheVariants.{LeastFirst, InTurn}
use Rattle.tp_server.specs.declared.turned.Turned.{Turned}
use Rattle.tp_server.specs.declared.turned.Turned.TheVariants as turned
use Rattle.tp_report.specs.declared.answer.ServerAnswer.{ServerAnswer}
use Rattle.tp_report.specs.declared.answer.ServerAnswer.TheVariants as told
use Rattle.tp_reference.specs.declared.plain_desk.PlainDesk.{PlainDesk}

-- what a step of a desk was answered, and what it left
pub record DeskAnswered : Type 0 where
  pub answer : ServerAnswer
  pub manager : thread.State
  pub desk : PlainDesk

-- ---- what is in hand

-- whether pass c has a unit in its hand
abbrev pub has_open : thread.State → ℕ → Bool
has_open m c = is_some (pass_at m c).holding

-- the work that the desk took, while its pass has a unit in its hand
abbrev pub work_in_hand : thread.State → ℕ → PlainDesk → Option Work
work_in_hand m c d = if has_open m c then d.taken else None

-- whether it takes part in a drain: it wasn't dropped, and has nothing in hand
abbrev pub takes_part : thread.State → ℕ → PlainDesk → Bool
takes_part m c d = not d.is_dropped && not (has_open m c)

-- the desk with these registers and nothing in hand
abbrev pub cleared : List ℕ → PlainDesk → PlainDesk
cleared registers d = record {
  registers = registers;
  taken = None;
  is_prepared = false;
  is_dropped = d.is_dropped;
}

-- the desk with work that isn't prepared
abbrev pub with_work : Work → PlainDesk → PlainDesk
with_work work d = record {
  registers = d.registers;
  taken = Some work;
  is_prepared = false;
  is_dropped = d.is_dropped;
}

-- the desk with its work prepared
abbrev pub with_prepared : PlainDesk → PlainDesk
with_prepared d = record {
  registers = d.registers;
  taken = d.taken;
  is_prepared = true;
  is_dropped = d.is_dropped;
}

-- the desk when it was dropped
abbrev pub with_drop : PlainDesk → PlainDesk
with_drop d = record { registers = d.registers; taken = None; is_prepared = false; is_dropped = true }

-- ---- its steps

-- nothing was done
abbrev pub nothing_done : ServerAnswer → thread.State → PlainDesk → DeskAnswered
nothing_done answer m d = record { answer = answer; manager = m; desk = d }

-- a claim in this order
abbrev pub claim_in_order : Order → thread.State → ℕ → ℕ → Claimed × thread.State
claim_in_order LeastFirst m c stage = claim_of_stage m c stage
claim_in_order InTurn m c stage = claim_next_of_stage m c stage

-- a claim that was answered so
abbrev pub claimed_as : Claimed × thread.State → PlainDesk → DeskAnswered
claimed_as (claimed.Work work, m) d = record {
  answer = told.Work work.element.id work.unit work.attempt;
  manager = m;
  desk = with_work work d;
}
claimed_as (claimed.Idle, m) d = nothing_done (told.Turned turned.Idle) m d
claimed_as (claimed.NoUnit, m) d = nothing_done (told.Turned turned.NoUnit) m d

abbrev pub claim_step : Order → Recipe → ℕ → thread.State → PlainDesk → DeskAnswered
claim_step order recipe c m d = if has_open m c then nothing_done told.Busy m d
    else claimed_as (claim_in_order order m c recipe.stage) d

-- whether what was found under an id is of another stage
abbrev pub is_of_other : ℕ → Option Element → Bool
is_of_other stage None = false
is_of_other stage (Some x) = not (x.stage == stage)

-- a claim of the element with this id, if it is of this stage. That no unit is left comes first.
abbrev pub claim_given : ℕ → ℕ → ℕ → thread.State → Result Work Refusal × thread.State
claim_given stage c id m =
    if nat_lt (pass_at m c).claimed m.limits.units && is_of_other stage (element_of m.history id)
    then (Err refusals.BadStage, m)
    else claim_id_of m c id

-- which was answered so
abbrev pub given_as : ℕ → Result Work Refusal × thread.State → PlainDesk → DeskAnswered
given_as id (Ok work, m) d = claimed_as (claimed.Work work, m) d
given_as id (Err refusals.NoUnit, m) d = nothing_done (told.Turned turned.NoUnit) m d
given_as id (Err why, m) d = nothing_done (told.NotTaken id why) m d

abbrev pub take_step : Recipe → ℕ → ℕ → thread.State → PlainDesk → DeskAnswered
take_step recipe id c m d =
    if has_open m c then nothing_done told.Busy m d else given_as id (claim_given recipe.stage c id m) d

-- work came to this, and nothing is in hand any more
abbrev pub settled_desk : Turned → thread.State → List ℕ → PlainDesk → DeskAnswered
settled_desk turned m registers d = record {
  answer = told.Turned turned;
  manager = m;
  desk = cleared registers d;
}

-- a commit of the drafts of an effect: the registers are changed where it goes through
abbrev pub committed_as : Work → Effect → Outcome × thread.State → PlainDesk → DeskAnswered
committed_as work effect (outcome.Committed first count, m) d =
    settled_desk (turned.Done work.unit work.element.id first count) m effect.registers d
committed_as work effect (outcome.Lost, m) d = settled_desk (turned.Lost work.element.id) m d.registers d
committed_as work effect (outcome.Full, m) d = settled_desk (turned.Full work.element.id) m d.registers d

-- work is committed with the effect of the recipe, or given up where the recipe declines it
abbrev pub settle_with : Work → Result Effect Declined → ℕ → thread.State → PlainDesk → DeskAnswered
settle_with work (Ok effect) c m d = committed_as work effect (commit_of m c effect.drafts) d
settle_with work (Err why) c m d = settled_desk (turned.Refused work.element.id why)
    (abort_of m c).1 d.registers d

-- work is done, and committed. Its registers change by commits alone, so work that was prepared before has
-- the effect that it has now.
abbrev pub settle : Recipe → Work → ℕ → thread.State → PlainDesk → DeskAnswered
settle recipe work c m d = settle_with work (effect_of recipe d.registers work.element) c m d

-- a turn is a claim and, where it takes work, a commit of what is done with it
abbrev pub turn_as : Recipe → ℕ → Claimed × thread.State → PlainDesk → DeskAnswered
turn_as recipe c (claimed.Work work, m) d = settle recipe work c m d
turn_as recipe c (claimed.Idle, m) d = nothing_done (told.Turned turned.Idle) m d
turn_as recipe c (claimed.NoUnit, m) d = nothing_done (told.Turned turned.NoUnit) m d

abbrev pub turn_by : Order → Recipe → ℕ → thread.State → PlainDesk → DeskAnswered
turn_by order recipe c m d = turn_as recipe c (claim_in_order order m c recipe.stage) d

abbrev pub turn_step : Recipe → ℕ → thread.State → PlainDesk → DeskAnswered
turn_step recipe c m d = if has_open m c then nothing_done told.Busy m d else turn_by LeastFirst recipe c m d

-- a prepare of work with this effect, which gives up what the recipe declines
abbrev pub prepare_with : Work → Result Effect Declined → ℕ → thread.State → PlainDesk → DeskAnswered
prepare_with work (Ok effect) c m d = record { answer = told.Ready; manager = m; desk = with_prepared d }
prepare_with work (Err why) c m d = settled_desk (turned.Refused work.element.id why)
    (abort_of m c).1 d.registers d

abbrev pub prepare_work : Recipe → Option Work → ℕ → thread.State → PlainDesk → DeskAnswered
prepare_work recipe None c m d = nothing_done told.NoneOpen m d
prepare_work recipe (Some work) c m d =
    if d.is_prepared
    then nothing_done told.Busy m d
    else prepare_with work (effect_of recipe d.registers work.element) c m d

abbrev pub prepare_step : Recipe → ℕ → thread.State → PlainDesk → DeskAnswered
prepare_step recipe c m d = prepare_work recipe (work_in_hand m c d) c m d

-- a commit
abbrev pub commit_work : Recipe → Option Work → ℕ → thread.State → PlainDesk → DeskAnswered
commit_work recipe None c m d = nothing_done told.NoneOpen m d
commit_work recipe (Some work) c m d = settle recipe work c m d

abbrev pub commit_step : Recipe → ℕ → thread.State → PlainDesk → DeskAnswered
commit_step recipe c m d = commit_work recipe (work_in_hand m c d) c m d

-- an abort
abbrev pub aborted_as : Work → Ended × thread.State → PlainDesk → DeskAnswered
aborted_as work (ended.Aborted, m) d = record {
  answer = told.Aborted work.element.id;
  manager = m;
  desk = cleared d.registers d;
}
aborted_as work (ended.AlreadyAborted, m) d = record {
  answer = told.AlreadyAborted work.element.id;
  manager = m;
  desk = cleared d.registers d;
}

abbrev pub abort_work : Option Work → ℕ → thread.State → PlainDesk → DeskAnswered
abort_work None c m d = nothing_done told.NoneOpen m d
abort_work (Some work) c m d = aborted_as work (abort_of m c) d

abbrev pub abort_step : ℕ → thread.State → PlainDesk → DeskAnswered
abort_step c m d = abort_work (work_in_hand m c d) c m d

-- what is in hand is given up
abbrev pub after_giving_up : thread.State → ℕ → thread.State
after_giving_up m c = if has_open m c then (abort_of m c).1 else m

-- a drop
abbrev pub drop_step : ℕ → thread.State → PlainDesk → DeskAnswered
drop_step c m d = record { answer = told.Dropped; manager = after_giving_up m c; desk = with_drop d }

-- ---- what it is asked

abbrev pub does : Recipe → DeskAct → ℕ → thread.State → PlainDesk → DeskAnswered
does recipe acts.Turn c m d = turn_step recipe c m d
does recipe acts.Claim c m d = claim_step LeastFirst recipe c m d
does recipe acts.Next c m d = claim_step InTurn recipe c m d
does recipe (acts.Take id) c m d = take_step recipe id c m d
does recipe acts.Prepare c m d = prepare_step recipe c m d
does recipe acts.Commit c m d = commit_step recipe c m d
does recipe acts.Abort c m d = abort_step c m d
does recipe acts.Drop c m d = drop_step c m d

-- a desk that was dropped does nothing
abbrev pub does_unless_dropped : Recipe → DeskAct → ℕ → thread.State → PlainDesk → DeskAnswered
does_unless_dropped recipe act c m d = if d.is_dropped then nothing_done told.Ended m d
    else does recipe act c m d
