-- What is reported of a script: the run of one thread over its commands, which has no races and rollovers.
use Rattle.std.specs.Prelude.{ℕ, zero, suc, ◌+◌, ◌*◌, ◌||◌, Bool, true, false, if◌then◌else◌, List, [], ◌∷◌}
use Rattle.std.specs.Prelude.{◌++◌, length, map, Option, Some, None, Result, Ok, Err, slice_get, slice_set}
use Rattle.std.specs.Prelude.{sum_by}
use Rattle.tp_model.specs.declared.types.Limits.{Limits}
use Rattle.tp_plain.specs.OneThread as thread
use Rattle.tp_plain.specs.OneThread.{start}
use Rattle.tp_script.specs.declared.head.Act.{Act}
use Rattle.tp_script.specs.declared.head.Act.TheVariants as act
use Rattle.tp_script.specs.declared.script.Command.{Command}
use Rattle.tp_script.specs.declared.script.Command.TheVariants.{Client, Desk, Balance, Sum}
use Rattle.tp_script.specs.declared.script.DeskAct.{DeskAct}
use Rattle.tp_script.specs.declared.fault.Refused.{Refused}
use Rattle.tp_script.specs.Fault.{refused_text}
use Rattle.tp_script.specs.Script.{HeadView, ScriptView, ServerView}
use Rattle.tp_server.specs.declared.order.Order.{Order}
use Rattle.tp_server.specs.declared.order.Order.TheVariants.{LeastFirst, InTurn}
use Rattle.tp_server.specs.declared.turned.Turned.TheVariants as turned
use Rattle.tp_report.specs.declared.answer.Answer.TheVariants as answer
use Rattle.tp_report.specs.declared.answer.ServerAnswer.{ServerAnswer}
use Rattle.tp_report.specs.declared.answer.ServerAnswer.TheVariants as told
use Rattle.tp_report.specs.Answer.{account_text, answer_text, balance_text, final_text, line, named_text}
use Rattle.tp_reference.specs.declared.plain_desk.PlainDesk.{PlainDesk}
use Rattle.tp_reference.specs.PlainClient.{client_step, counts_of}
use Rattle.tp_reference.specs.PlainDesks.{DeskAnswered, does_unless_dropped, after_giving_up, takes_part}
use Rattle.tp_reference.specs.PlainDesks.{turn_by}

-- the manager of one thread, and a desk for each server
pub record ReportState : Type 0 where
  pub manager : thread.State
  pub desks : List PlainDesk

-- the pass of the server at a place: after the client's, in the order of the servers
abbrev pub worker : ℕ → ℕ
worker i = i + 1

-- ---- commands on servers

-- what a desk's step left, with the desk at its place
abbrev pub with_acted : ReportState → ℕ → DeskAnswered → ReportState
with_acted s i done = record { manager = done.manager; desks = slice_set s.desks i done.desk }

-- a command on the server at a place; there is always one
abbrev pub desk_at : Option ServerView → Option PlainDesk → ℕ → DeskAct → ReportState → List ℕ × ReportState
desk_at (Some server) (Some desk) i act s =
    let done = does_unless_dropped server.recipe act (worker i) s.manager desk in
    (line (named_text server.name done.answer), with_acted s i done)
desk_at server desk i act s = ([], s)

abbrev pub desk_step : List ServerView → ℕ → DeskAct → ReportState → List ℕ × ReportState
desk_step servers i act s = desk_at (slice_get servers i) (slice_get s.desks i) i act s

-- ---- registers

-- a register of a server, or that its desk was dropped
abbrev pub balance_answer : Option ServerView → Option PlainDesk → ℕ → List ℕ
balance_answer (Some server) (Some desk) k =
    if desk.is_dropped
    then line (named_text server.name told.Ended)
    else line (balance_text server.name k (slice_get desk.registers k))
balance_answer server desk k = []

-- what a desk adds to the sum of a register: its value, unless it was dropped or has no such register
abbrev pub value_of : Option ℕ → ℕ
value_of None = 0
value_of (Some value) = value

abbrev pub counted_at_desk : ℕ → PlainDesk → ℕ
counted_at_desk k desk = if desk.is_dropped then 0 else value_of (slice_get desk.registers k)

-- the sum of a register over all desks
abbrev pub sum_over_desks : ℕ → ReportState → ℕ
sum_over_desks k s = sum_by (counted_at_desk k) s.desks

-- ---- drains

-- whether a turn claimed an element
abbrev pub has_claimed : ServerAnswer → Bool
has_claimed (told.Turned turned.Idle) = false
has_claimed (told.Turned turned.NoUnit) = false
has_claimed other = true

-- the turn of a desk in a round, if it is free, and whether it claimed an element
abbrev pub round_turn : Order → Option ServerView → Option PlainDesk → ℕ → ReportState → Bool × ReportState
round_turn order (Some server) (Some desk) i s =
    if takes_part s.manager (worker i) desk
    then (let done = turn_by order server.recipe (worker i) s.manager desk in
    (has_claimed done.answer, with_acted s i done))
    else (false, s)
round_turn order server desk i s = (false, s)

-- a round of the servers before a place: each free desk takes one turn, in the order of the servers
unfoldable pub round_below : Order → List ServerView → ℕ → ReportState → Bool × ReportState
round_below order servers zero s = (false, s)
round_below order servers (suc i) s =
    let before = round_below order servers i s in
    let turn = round_turn order (slice_get servers i) (slice_get before.1.desks i) i before.1 in
    (before.0 || turn.0, turn.1)

-- a round of all servers, and whether any of them claimed an element
abbrev pub round_of : Order → List ServerView → ReportState → Bool × ReportState
round_of order servers s = round_below order servers (length servers) s

-- rounds, one after another, until one claims nothing, and this many at most
unfoldable pub drain_rounds : Order → List ServerView → ℕ → ReportState → ReportState
drain_rounds order servers zero s = s
drain_rounds order servers (suc n) s =
    let round = round_of order servers s in
    if round.0 then drain_rounds order servers n round.1 else round.1

-- a drain. A round that claims an element uses a unit of work, so there are no more such rounds than units.
abbrev pub most_rounds : Limits → ℕ
most_rounds l = l.parts * l.units + 1

abbrev pub drain_of : Order → List ServerView → ReportState → ReportState
drain_of order servers s = drain_rounds order servers (most_rounds s.manager.limits) s

-- ---- each command: its line, and the state after it

-- what the client's command left, with the desks as they were
abbrev pub with_manager : ReportState → List ℕ × thread.State → List ℕ × ReportState
with_manager s (text, manager) = (text, record { manager = manager; desks = s.desks })

-- one command
abbrev pub command_step : List ServerView → Command → ReportState → List ℕ × ReportState
command_step servers (Client act) s = with_manager s (client_step act s.manager)
command_step servers (Desk server act) s = desk_step servers server act s
command_step servers (Balance server k) s = (
  balance_answer (slice_get servers server)
      (slice_get s.desks server) k,
  s,
)
command_step servers (Sum k) s = (line (answer_text (answer.Sum k (sum_over_desks k s))), s)

-- a drain
abbrev pub drain_step : Order → List ServerView → ReportState → List ℕ × ReportState
drain_step order servers s = (line (answer_text answer.Drained), drain_of order servers s)

-- what is asked for; all else writes nothing, since its script isn't run
abbrev pub act_step : List ServerView → Act → ReportState → List ℕ × ReportState
act_step servers (act.Command c) s = command_step servers c s
act_step servers act.Drain s = drain_step LeastFirst servers s
act_step servers act.DrainNext s = drain_step InTurn servers s
act_step servers other s = ([], s)

-- ---- the whole report

-- the final line of the server at a place; there is always one
abbrev pub desk_final_line : Option ServerView → Option PlainDesk → List ℕ
desk_final_line (Some server) (Some desk) = line (final_text server.name desk.registers)
desk_final_line server desk = []

-- the final lines of the servers before a place, in their order
unfoldable pub finals_below : List ServerView → List PlainDesk → ℕ → List ℕ
finals_below servers desks zero = []
finals_below servers desks (suc i) = finals_below servers desks i ++ desk_final_line (slice_get servers i)
    (slice_get desks i)

-- the manager when the desks before a place are ended: what each of them has in hand is given up
unfoldable pub ended_below : thread.State → ℕ → thread.State
ended_below m zero = m
ended_below m (suc i) = after_giving_up (ended_below m i) (worker i)

-- the account of all elements when all desks are ended, if it is asked for
abbrev pub account_line : Bool → ℕ → ReportState → List ℕ
account_line true servers s = line (account_text (counts_of (ended_below s.manager servers)))
account_line false servers s = []

-- what is printed after the commands
abbrev pub closing : List ServerView → Bool → ReportState → List ℕ
closing servers account s = finals_below servers s.desks (length servers)
    ++ account_line account (length servers) s

-- what the commands from here on write, and then the closing
unfoldable pub reports : List ServerView → Bool → List Act → ReportState → List ℕ
reports servers account [] s = closing servers account s
reports servers account (a ∷ others) s = let step = act_step servers a s in step.0
    ++ reports servers account others step.1

-- a pass for the client, and one for each server
abbrev pub plain_limits : HeadView → Limits
plain_limits h = record {
  parts = 1 + length h.servers;
  rows = h.settings.rows;
  units = h.settings.units;
  attempts = h.settings.attempts;
  spare = h.settings.spare;
}

-- a desk with nothing in hand
abbrev pub new_desk : ServerView → PlainDesk
new_desk server = record {
  registers = server.registers;
  taken = None;
  is_prepared = false;
  is_dropped = false;
}

-- before the first command
abbrev pub begin : HeadView → ReportState
begin h = record { manager = start (plain_limits h); desks = map new_desk h.servers }

-- the report of a script that is run
abbrev pub report_of : ScriptView → List ℕ
report_of s = reports s.head.servers s.account s.acts (begin s.head)

-- the report of what a script's bytes say: of a refusal the one line of it
abbrev pub report_of_read : Result ScriptView Refused → List ℕ
report_of_read (Ok s) = report_of s
report_of_read (Err r) = line (refused_text r)
