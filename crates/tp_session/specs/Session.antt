-- A whole session, computed of its lines.
use Rattle.std.specs.Prelude.{ℕ, ◌+◌, ◌==◌, length, Bool, true, false, if◌then◌else◌, List, [], ◌∷◌, ◌++◌}
use Rattle.std.specs.Prelude.{Option, Some, None, Result, Ok, Err, slice_get, slice_set}
use Rattle.std.specs.List.{flat_map, sum_by}
use Rattle.tp_script.specs.declared.fault.LineFault.{LineFault}
use Rattle.tp_script.specs.declared.fault.LineFault.TheVariants.{BadName, Order, Syntax}
use Rattle.tp_server.specs.declared.order.Order.{Order as Turns}
use Rattle.tp_lines.specs.HeadTexts.{head_text}
use Rattle.tp_lines.specs.Names.{NameView}
use Rattle.tp_lines.specs.Tags.{tag_in, tagged_said}
use Rattle.tp_lines.specs.declared.line.Act.{Act}
use Rattle.tp_lines.specs.declared.line.Act.TheVariants.{Abort}
use Rattle.tp_lines.specs.declared.line.Command.{Command}
use Rattle.tp_lines.specs.declared.line.Command.TheVariants as commands
use Rattle.tp_lines.specs.declared.line.Fence.{Fence}
use Rattle.tp_lines.specs.declared.line.HeadLine.{HeadLine}
use Rattle.tp_lines.specs.declared.line.HeadLine.TheVariants as head
use Rattle.tp_lines.specs.declared.line.Line.{Line}
use Rattle.tp_lines.specs.declared.line.Line.TheVariants as lines
use Rattle.tp_answers.specs.Answer.{answer_text, line}
use Rattle.tp_answers.specs.NoteTexts.{last_worker_text}
use Rattle.tp_answers.specs.OverviewTexts.{HolderView, balance_text, final_text, holds_text}
use Rattle.tp_answers.specs.ToldTexts.{joined_text, left_text, named_text}
use Rattle.tp_answers.specs.declared.answer.Answer.TheVariants as answer
use Rattle.tp_answers.specs.declared.told.Told.TheVariants as told
use Rattle.tp_store.specs.Calls.{alive_in}
use Rattle.tp_store.specs.State.{State}
use Rattle.tp_store.specs.declared.element.Element.{Element}
use Rattle.tp_session.specs.declared.hand.Hand.{Hand}
use Rattle.tp_session.specs.Clients.{forget_step, last_by, of_client, receive_step, register_step, renew_step}
use Rattle.tp_session.specs.Clients.{send_step}
use Rattle.tp_session.specs.Drains.{Round, rounds}
use Rattle.tp_session.specs.Dumps.{dump_lines, dump_text}
use Rattle.tp_session.specs.Hands.{attempt_in, hand_told, held_of, is_in_hand}
use Rattle.tp_session.specs.Heads.{attempts_set, head_set, keep_set, most_set, worker_set}
use Rattle.tp_session.specs.Requests.{account_step, cancel_step, collect_step, count_step, depth_step, errors_step}
use Rattle.tp_session.specs.Requests.{family_step, kill_step, list_step, read_step, release_step, reply_step}
use Rattle.tp_session.specs.Requests.{requeue_step, submit_step}
use Rattle.tp_session.specs.Roles.{server_at, with_worker, without, worker_at}
use Rattle.tp_session.specs.Said.{Step, just}
use Rattle.tp_session.specs.Servers.{Served, gives_outputs, server_does}
use Rattle.tp_session.specs.State.{ServerView, SessionState, begin, with_store}
use Rattle.tp_session.specs.Workers.{Worked, is_of_server, worker_does}
use Rattle.tp_session.specs.declared.phase.Phase.{Phase}
use Rattle.tp_session.specs.declared.phase.Phase.TheVariants.{InHead, Restoring, Begun}
use Rattle.tp_session.specs.declared.drains.TheConstants.{MAX_ROUNDS_OF_DRAIN}
use Rattle.tp_session.specs.declared.worker.Worker.{Worker}

-- ---- workers and servers

abbrev pub worked : NameView → Worked → SessionState → Step
worked name done s =
    Ok (line (named_text name done.told), with_worker name done.worker (with_store done.store s))

abbrev pub served : ℕ → Served → SessionState → Step
served place done s = Ok (
  line (named_text done.server.name done.told),
  record s { servers = slice_set s.servers place done.server; store = done.store },
)

abbrev pub server_step : ℕ → Option ServerView → Act → SessionState → Step
server_step place None act s = Err BadName
server_step place (Some v) act s =
    if gives_outputs act then Err Syntax else served place (server_does act v s.store) s

abbrev pub at_server : Option ℕ → Act → SessionState → Step
at_server None act s = Err BadName
at_server (Some place) act s = server_step place (slice_get s.servers place) act s

abbrev pub act_by : NameView → Act → Option Worker → SessionState → Step
act_by name act (Some w) s =
    if is_of_server act then Err BadName else worked name (worker_does act w s.store) s
act_by name act None s = at_server (server_at name s) act s

abbrev pub act_step : NameView → Act → SessionState → Step
act_step name act s = act_by name act (worker_at name s) s

-- a worker does it where it has just that in hand
abbrev pub fenced_by : NameView → Fence → Act → Option Worker → SessionState → Step
fenced_by name fence act None s = Err BadName
fenced_by name fence act (Some w) s =
    if is_in_hand fence w.hand then act_by name act (Some w) s else just (named_text name told.Other) s

abbrev pub leave_by : NameView → Option Worker → SessionState → Step
leave_by name None s = Err BadName
leave_by name (Some w) s = let done = worker_does Abort w s.store in
    Ok (line (left_text name done.told), record s { workers = without name s.workers; store = done.store })

abbrev pub last_as : NameView → Option Worker → SessionState → Step
last_as name (Some w) s = just (last_worker_text name (hand_told w.hand s.store) w.end) s
last_as name None s = of_client name (last_by name) s

abbrev pub join_by : NameView → Result SessionState LineFault → Step
join_by name (Ok s) = Ok (line (joined_text name), s)
join_by name (Err fault) = Err fault

-- ---- registers

abbrev pub balance_by : ℕ → Option ServerView → SessionState → Step
balance_by k None s = Err BadName
balance_by k (Some v) s = just (balance_text v.name k (slice_get v.registers k)) s

abbrev pub balance_at : ℕ → Option ℕ → SessionState → Step
balance_at k None s = Err BadName
balance_at k (Some place) s = balance_by k (slice_get s.servers place) s

-- the sum of register k over the servers that have it
abbrev pub or_zero : Option ℕ → ℕ
or_zero None = 0
or_zero (Some value) = value

abbrev pub register_or_zero : ℕ → ServerView → ℕ
register_or_zero k v = or_zero (slice_get v.registers k)

abbrev pub sum_step : ℕ → SessionState → Step
sum_step k s = just (answer_text (answer.Sum k (sum_by (register_or_zero k) s.servers))) s

-- ---- all servers and workers

abbrev pub drained_text : Bool → List ℕ
drained_text true = answer_text answer.DrainedSoFar
drained_text false = answer_text answer.Drained

abbrev pub drained : Round → SessionState → Step
drained r s = Ok (line (drained_text r.took), record s { servers = r.servers; store = r.store })

abbrev pub drain_step : Turns → SessionState → Step
drain_step order s = drained (rounds order MAX_ROUNDS_OF_DRAIN s.servers s.store) s

-- who has what in hand, and in which attempt, where its unit holds it still
abbrev pub attempt_of : Option Element → Option ℕ
attempt_of None = None
attempt_of (Some e) = Some (attempt_in e.status)

abbrev pub hand_holders : NameView → Option Hand → State → List HolderView
hand_holders name None s = []
hand_holders name (Some h) s =
    record { name = name; id = h.id; unit = h.unit; attempt = attempt_of (held_of h s) } ∷ []

abbrev pub server_holders : State → ServerView → List HolderView
server_holders s v = hand_holders v.name v.hand s

abbrev pub worker_holders : State → NameView × Worker → List HolderView
worker_holders s (name, w) = hand_holders name w.hand s

abbrev pub holds_step : SessionState → Step
holds_step s = just (holds_text (flat_map (server_holders s.store) s.servers
    ++ flat_map (worker_holders s.store) s.workers)) s

-- ---- each line

abbrev pub does : Command → SessionState → Step
does (commands.Submit stage body) s = submit_step stage body s
does (commands.Kill id) s = kill_step id s
does (commands.Cancel root) s = cancel_step root s
does (commands.Requeue id) s = requeue_step id s
does (commands.Release id) s = release_step id s
does (commands.Read id) s = read_step id s
does (commands.Reply root) s = reply_step root s
does (commands.Collect root) s = collect_step root s
does (commands.Family root) s = family_step root s
does commands.Errors s = errors_step s
does commands.Count s = count_step s
does commands.Depth s = depth_step s
does (commands.List stage from) s = list_step stage from s
does commands.Account s = account_step s
does commands.Holds s = holds_step s
does commands.Dump s = Ok (dump_text (dump_lines s), s)
does commands.Restore s = just (answer_text (answer.Restored (alive_in s.store))) s
does (commands.Drain order) s = drain_step order s
does (commands.Sum k) s = sum_step k s
does (commands.Balance name k) s = balance_at k (server_at name s) s
does (commands.Act name act) s = act_step name act s
does (commands.Fenced name fence act) s = fenced_by name fence act (worker_at name s) s
does (commands.Leave name) s = leave_by name (worker_at name s) s
does (commands.Send name epoch number stage body) s = send_step name epoch number stage body s
does (commands.Receive name epoch number root note) s = receive_step name epoch number root note s
does (commands.Last name) s = last_as name (worker_at name s) s
does (commands.Forget name) s = forget_step name s

-- `restore` ends a head; behind what waits for it no other command comes
abbrev pub is_in_order : Phase → Command → Bool
is_in_order InHead c = true
is_in_order Restoring commands.Restore = true
is_in_order Restoring c = false
is_in_order Begun commands.Restore = false
is_in_order Begun c = true

-- the head is over
abbrev pub has_begun : Phase → Bool
has_begun Begun = true
has_begun other = false

-- a command ends the head
abbrev pub begun : Step → Step
begun (Ok (text, s)) = Ok (text, record s { phase = Begun })
begun (Err fault) = Err fault

abbrev pub command_step : Command → SessionState → Step
command_step c s = if is_in_order s.phase c then begun (does c s) else Err Order

-- a line of the head has no answer there; behind it workers and clients alone come, and settings change
abbrev pub quietly : Result SessionState LineFault → Step
quietly (Ok s) = Ok ([], s)
quietly (Err fault) = Err fault

-- a setting that has changed is told as its line
abbrev pub told_set : HeadLine → Result SessionState LineFault → Step
told_set l (Ok s) = Ok (line (head_text l), s)
told_set l (Err fault) = Err fault

abbrev pub late_step : HeadLine → SessionState → Step
late_step (head.Limit n) s = told_set (head.Limit n) (attempts_set n s)
late_step (head.Max n) s = told_set (head.Max n) (most_set n s)
late_step (head.Keep n) s = told_set (head.Keep n) (keep_set n s)
late_step (head.Worker name stage) s = join_by name (worker_set name stage s)
late_step (head.Register name) s = register_step name s
late_step (head.Renew name) s = renew_step name s
late_step other s = Err Order

abbrev pub head_step : Phase → HeadLine → SessionState → Step
head_step Begun l s = late_step l s
head_step phase l s = quietly (head_set l s)

abbrev pub said_step : Line → SessionState → Step
said_step lines.Nothing s = Ok ([], s)
said_step (lines.Head l) s = head_step s.phase l s
said_step (lines.Do c) s = command_step c s
said_step lines.Version s = just (answer_text answer.Version) s

abbrev pub read_step_of : Result Line LineFault → SessionState → Step
read_step_of (Ok l) s = said_step l s
read_step_of (Err fault) s = Err fault

-- a faulty line, the n-th of all, is refused, and changes nothing
abbrev pub or_refused : ℕ → SessionState → Step → List ℕ × SessionState
or_refused n s (Ok done) = done
or_refused n s (Err fault) = (line (answer_text (answer.RefusedLine n fault)), s)

-- each line of a text behind a mark, where one begins here or not
abbrev pub marked : Bool → List ℕ → List ℕ → List ℕ
marked begins mark [] = []
marked begins mark (b ∷ bs) = (if begins then mark else []) ++ (b ∷ marked (b == 10) mark bs)

-- each line of an answer behind its tag; without an answer the tag is one
abbrev pub tagged : List ℕ → List ℕ → List ℕ
tagged tag text = if length text == 0 then 64 ∷ (tag ++ 10 ∷ []) else marked true (64 ∷ (tag ++ 32 ∷ [])) text

abbrev pub with_tag : Option (List ℕ) → List ℕ × SessionState → List ℕ × SessionState
with_tag None done = done
with_tag (Some tag) done = (tagged tag done.0, done.1)

-- what stands behind a tag is answered as without it
abbrev pub line_step : ℕ → List ℕ → SessionState → List ℕ × SessionState
line_step n bytes s = with_tag (tag_in bytes) (or_refused n s (read_step_of (tagged_said bytes) s))

-- ---- all of them

-- lines, one after another, behind so many others
abbrev pub lines_step : ℕ → List (List ℕ) → SessionState → List ℕ × SessionState
lines_step past [] s = ([], s)
lines_step past (l ∷ others) s =
    let first = line_step (past + 1) l s in
    let rest = lines_step (past + 1) others first.1 in (first.0 ++ rest.0, rest.1)

-- the registers of each server at the end
abbrev pub final_line : ServerView → List ℕ
final_line v = line (final_text v.name v.registers)

abbrev pub finals : SessionState → List ℕ
finals s = flat_map final_line s.servers

-- what is answered to these lines, and behind the last one
abbrev pub session_of : List (List ℕ) → List ℕ
session_of all = let done = lines_step 0 all begin in done.0 ++ finals done.1
