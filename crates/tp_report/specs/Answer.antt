-- The texts of answers, and the lines of a report.
use Rattle.std.specs.Prelude.{ℕ, List, [], Bool, ◌&&◌, ◌==◌, if◌then◌else◌, Option, Some, None, codes}
use Rattle.std.specs.Prelude.{decimal, length, slice_index}
use Rattle.std.specs.List.{flat_map}
use Rattle.tp_model.specs.declared.types.Counts.{Counts}
use Rattle.tp_model.specs.declared.types.Element.{Element}
use Rattle.tp_model.specs.declared.types.Look.{Look}
use Rattle.tp_model.specs.declared.types.Refusal.{Refusal}
use Rattle.tp_model.specs.declared.types.Refusal.TheVariants as refusal
use Rattle.tp_model.specs.declared.types.Status.{Status}
use Rattle.tp_model.specs.declared.types.Status.TheVariants as status
use Rattle.tp_model.specs.Accounts.{all_in}
use Rattle.tp_server.specs.Names.{declined_name}
use Rattle.tp_report.specs.declared.answer.Answer.{Answer}
use Rattle.tp_report.specs.declared.answer.Answer.TheVariants as answer
use Rattle.tp_report.specs.declared.answer.Renamed.{Renamed}
use Rattle.tp_report.specs.declared.answer.ServerAnswer.{ServerAnswer}
use Rattle.tp_report.specs.declared.answer.ServerAnswer.TheVariants as server
use Rattle.tp_server.specs.declared.turned.Turned.{Turned}
use Rattle.tp_server.specs.declared.turned.Turned.TheVariants as turned
use Rattle.tp_script.specs.Fault.{◌<>◌}

-- a text as a line
abbrev pub line : List ℕ → List ℕ
line text = text <> codes "\n"

-- ---- refusals

-- why a call was refused
abbrev pub refusal_name : Refusal → List ℕ
refusal_name refusal.NoMemory = codes "NoMemory"
refusal_name refusal.BadLimits = codes "BadLimits"
refusal_name refusal.BadStage = codes "BadStage"
refusal_name refusal.NotThere = codes "NotThere"
refusal_name (refusal.Consumed unit) = codes "Consumed " <> decimal unit
refusal_name refusal.AlreadyKilled = codes "AlreadyKilled"
refusal_name refusal.Full = codes "Full"
refusal_name refusal.NotParked = codes "NotParked"
refusal_name refusal.NoRound = codes "NoRound"
refusal_name refusal.NotHeld = codes "NotHeld"
refusal_name refusal.NotWaiting = codes "NotWaiting"
refusal_name refusal.NoUnit = codes "NoUnit"

-- the number of that reason
abbrev pub refusal_number : Refusal → ℕ
refusal_number refusal.NoMemory = 1
refusal_number refusal.BadLimits = 2
refusal_number refusal.BadStage = 3
refusal_number refusal.NotThere = 4
refusal_number (refusal.Consumed unit) = 5
refusal_number refusal.AlreadyKilled = 6
refusal_number refusal.Full = 7
refusal_number refusal.NotParked = 8
refusal_number refusal.NoRound = 9
refusal_number refusal.NotHeld = 12
refusal_number refusal.NotWaiting = 10
refusal_number refusal.NoUnit = 13

-- a refused call
abbrev pub refusal_text : Refusal → List ℕ
refusal_text why = codes "refused " <> decimal (refusal_number why) <> codes " " <> refusal_name why

-- ---- servers

-- what a turn came to
abbrev pub turned_text : Turned → List ℕ
turned_text turned.Idle = codes "idle"
turned_text turned.NoUnit = codes "nounit"
turned_text (turned.Done unit element first count) = codes "done " <> decimal element <> codes " unit "
    <> decimal unit <> codes " outputs " <> decimal first <> codes " " <> decimal count
turned_text (turned.Refused element why) =
    codes "refused " <> decimal element <> codes " " <> declined_name why
turned_text (turned.Lost element) = codes "lost " <> decimal element
turned_text (turned.Full element) = codes "full " <> decimal element

-- what a command on a server came to
abbrev pub server_text : ServerAnswer → List ℕ
server_text (server.Turned turned) = turned_text turned
server_text (server.Work element unit attempt) =
    codes "work " <> decimal element <> codes " unit " <> decimal unit <> codes " attempt " <> decimal attempt
server_text (server.NotTaken element why) =
    codes "refused " <> decimal element <> codes " " <> refusal_name why
server_text server.Busy = codes "busy"
server_text server.NoneOpen = codes "none"
server_text server.Ready = codes "ready"
server_text (server.Aborted element) = codes "aborted " <> decimal element
server_text (server.AlreadyAborted element) = codes "already " <> decimal element
server_text server.Dropped = codes "dropped"
server_text server.Ended = codes "ended"

-- the same, with the server's name
abbrev pub named_text : List ℕ → ServerAnswer → List ℕ
named_text name answer = name <> codes " " <> server_text answer

-- ---- elements

-- a submitted element
abbrev pub submitted_text : ℕ → List ℕ
submitted_text id = codes "submitted " <> decimal id

-- who made an element
abbrev pub maker_text : Option ℕ → List ℕ
maker_text None = codes "client"
maker_text (Some unit) = decimal unit

-- the status of an element
abbrev pub status_text : Status → List ℕ
status_text (status.Waiting attempts) = codes "waiting " <> decimal attempts
status_text (status.Held unit attempt) = codes "held " <> decimal unit <> codes " " <> decimal attempt
status_text (status.Consumed unit) = codes "consumed " <> decimal unit
status_text (status.Parked attempts) = codes "parked " <> decimal attempts
status_text status.Killed = codes "killed"

-- whether words 2 and 3 of a body are 0: then they aren't printed
abbrev pub is_short : List ℕ → Bool
is_short body = (slice_index body 2 == 0) && (slice_index body 3 == 0)

-- a body as it was read
abbrev pub two_words_text : List ℕ → List ℕ
two_words_text body =
    codes " key " <> decimal (slice_index body 0) <> codes " amount " <> decimal (slice_index body 1)

abbrev pub more_words_text : List ℕ → List ℕ
more_words_text body = if is_short body then [] else codes " more " <> decimal (slice_index body 2)
    <> codes " " <> decimal (slice_index body 3)

-- an element as it was read
unfoldable pub element_text : Element → List ℕ
element_text e = (decimal e.id <> codes " stage " <> decimal e.stage <> codes " root " <> decimal e.root
    <> two_words_text e.body) <> more_words_text e.body <> codes " by "

abbrev pub look_text : Look → List ℕ
look_text look =
    element_text look.element <> maker_text look.element.by <> codes " " <> status_text look.status

-- a reply: its id, and its body
abbrev pub two_words : List ℕ → List ℕ
two_words body = codes ":" <> decimal (slice_index body 0) <> codes ":" <> decimal (slice_index body 1)

abbrev pub more_words : List ℕ → List ℕ
more_words body = if is_short body then [] else codes ":" <> decimal (slice_index body 2) <> codes ":"
    <> decimal (slice_index body 3)

abbrev pub reply_text : Element → List ℕ
reply_text e = (codes " " <> decimal e.id <> two_words e.body) <> more_words e.body

-- the replies to a request
abbrev pub replies_text : ℕ → List Element → List ℕ
replies_text root replies = (codes "replies " <> decimal root) <> flat_map reply_text replies

-- the replies to a request that were taken
abbrev pub collected_text : ℕ → List Element → List ℕ
collected_text root replies = (codes "collected " <> decimal root) <> flat_map reply_text replies

-- the status of an element, in one word
abbrev pub state_text : Status → List ℕ
state_text (status.Waiting attempts) = codes "waiting"
state_text (status.Held unit attempt) = codes "held"
state_text (status.Consumed unit) = codes "consumed"
state_text (status.Parked attempts) = codes "parked"
state_text status.Killed = codes "killed"

-- an element of a request: its id, its stage, and its status
abbrev pub member_text : Look → List ℕ
member_text look = (codes " " <> decimal look.element.id <> codes ":" <> decimal look.element.stage
    <> codes ":") <> state_text look.status

-- the elements of a request
abbrev pub family_text : ℕ → List Look → List ℕ
family_text root looks = (codes "family " <> decimal root) <> flat_map member_text looks

-- ids one after the other
abbrev pub ids_text : List ℕ → List ℕ
ids_text ids = flat_map (λ id. codes " " <> decimal id) ids

-- the parked elements
abbrev pub errors_text : List ℕ → List ℕ
errors_text ids = codes "errors" <> ids_text ids

-- how many elements have each status
abbrev pub counts_text : Counts → List ℕ
counts_text c = codes "waiting " <> decimal c.waiting <> codes " held " <> decimal c.held
    <> codes " consumed " <> decimal c.consumed <> codes " parked " <> decimal c.parked <> codes " killed "
    <> decimal c.killed

-- how many are born, and how many have each status
abbrev pub account_text : Counts → List ℕ
account_text c = codes "account born " <> decimal (all_in c) <> codes " " <> counts_text c

-- ---- registers

-- a register of a server
abbrev pub balance_text : List ℕ → ℕ → Option ℕ → List ℕ
balance_text name k (Some value) =
    codes "balance " <> name <> codes " " <> decimal k <> codes " " <> decimal value
balance_text name k None = codes "balance " <> name <> codes " " <> decimal k <> codes " none"

-- the registers of a server at the end
abbrev pub final_text : List ℕ → List ℕ → List ℕ
final_text name registers = (codes "final " <> name) <> flat_map (λ v. codes " " <> decimal v) registers

-- ---- rollovers

-- an element that was carried over: its id in the old manager, and in the new one
abbrev pub renamed_text : Renamed → List ℕ
renamed_text e = codes " " <> decimal e.old <> codes ":" <> decimal e.new

-- how many were carried over, and each of them
abbrev pub rolled_text : List Renamed → List ℕ
rolled_text elements = (codes "rolled over " <> decimal (length elements)) <> flat_map renamed_text elements

-- ---- all of them

-- the text of an answer
abbrev pub answer_text : Answer → List ℕ
answer_text (answer.Submitted id) = submitted_text id
answer_text (answer.Refused why) = refusal_text why
answer_text (answer.Server name told) = named_text name.now told
answer_text (answer.Replies root replies) = replies_text root replies.now
answer_text (answer.Killed id aborted) = codes "killed " <> decimal id <> codes " aborted " <> decimal aborted
answer_text (answer.Cancelled root killed) =
    codes "cancelled " <> decimal root <> codes " killed " <> decimal killed
answer_text (answer.Requeued id round) = codes "requeued " <> decimal id <> codes " round " <> decimal round
answer_text (answer.Released id unit attempt) =
    codes "released " <> decimal id <> codes " unit " <> decimal unit <> codes " attempt " <> decimal attempt
answer_text (answer.Collected root replies) = collected_text root replies.now
answer_text (answer.Family root looks) = family_text root looks.now
answer_text (answer.Read look) = look_text look
answer_text (answer.Errors ids) = errors_text ids.now
answer_text (answer.Balance name k value) = balance_text name.now k value
answer_text (answer.Sum k sum) = codes "sum " <> decimal k <> codes " " <> decimal sum
answer_text (answer.Count all) = counts_text all
answer_text (answer.Account all) = account_text all
answer_text (answer.Raced submitted) = codes "race submitted " <> decimal submitted
answer_text answer.Drained = codes "drained"
answer_text (answer.RolledOver elements) = rolled_text elements.now
answer_text answer.Busy = codes "refused 11 Busy"
answer_text answer.Unequal = codes "refused 14 Unequal"
answer_text (answer.Final name registers) = final_text name.now registers.now
