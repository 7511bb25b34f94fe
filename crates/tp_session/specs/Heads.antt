-- What the lines of a head set: what there is before the first command.
use Rattle.std.specs.Prelude.{ℕ, nat_lt, ◌&&◌, Bool, true, false, is_some, is_none, if◌then◌else◌}
use Rattle.std.specs.Prelude.{[], ◌∷◌, ◌++◌, length, replicate, slice_get, slice_set}
use Rattle.std.specs.Prelude.{Option, Some, None, Result, Ok, Err}
use Rattle.tp_script.specs.declared.fault.LineFault.{LineFault}
use Rattle.tp_script.specs.declared.fault.LineFault.TheVariants.{BadLimits, BadName, BadNumber, BadRecipe}
use Rattle.tp_script.specs.declared.script.TheConstants.{MAX_SERVERS}
use Rattle.tp_store.specs.State.{State, with_limits}
use Rattle.tp_store.specs.Restoring.{put_back_of, put_over_of, set_numbers_of, set_settled_of}
use Rattle.tp_store.specs.declared.answers.Refusal.{Refusal}
use Rattle.tp_store.specs.declared.store.Limits.{Limits}
use Rattle.tp_lines.specs.Names.{NameView}
use Rattle.tp_lines.specs.Lines.{ServerLineView}
use Rattle.tp_lines.specs.declared.line.ClientNote.{ClientNote}
use Rattle.tp_lines.specs.declared.line.HeadLine.{HeadLine}
use Rattle.tp_lines.specs.declared.line.HeadLine.TheVariants as head
use Rattle.tp_lines.specs.declared.line.UnitEnd.{UnitEnd}
use Rattle.tp_session.specs.Clients.{registered, renewed}
use Rattle.tp_session.specs.Roles.{is_of_worker, is_taken, server_at, with_client, with_worker, worker_at}
use Rattle.tp_session.specs.State.{ServerView, SessionState, with_store}
use Rattle.tp_session.specs.declared.hand.Hand.{Hand}
use Rattle.tp_session.specs.declared.phase.Phase.TheVariants.{Restoring}
use Rattle.tp_session.specs.declared.worker.Worker.{Worker}

-- the session behind a line of the head, or the fault of the line
abbrev pub Set : Type 0
Set = Result SessionState LineFault

-- ---- settings

abbrev pub limited : Limits → SessionState → Set
limited limits s = Ok (with_store (with_limits limits s.store) s)

abbrev pub attempts_set : ℕ → SessionState → Set
attempts_set n s = limited (record s.store.limits { attempts = n }) s

abbrev pub most_set : ℕ → SessionState → Set
most_set n s = limited (record s.store.limits { most = n }) s

abbrev pub keep_set : ℕ → SessionState → Set
keep_set n s = limited (record s.store.limits { keep = n }) s

-- ---- servers

-- a server whose registers are 0
abbrev pub new_server : ServerLineView → ServerView
new_server line = record {
  name = line.name;
  kind = line.kind;
  recipe = line.recipe;
  registers = replicate line.recipe.registers 0;
  hand = None;
  is_prepared = false;
  is_dropped = false;
  from = 0;
}

abbrev pub server_set : ServerLineView → SessionState → Set
server_set line s =
    if is_taken line.name s then Err BadName
    else if nat_lt (length s.servers) MAX_SERVERS
    then Ok (record s { servers = s.servers ++ new_server line ∷ [] })
    else Err BadLimits

-- how a server is changed by a line, or the fault of that
abbrev pub Change : Type 0
Change = ServerView → Result ServerView LineFault

abbrev pub with_server : ℕ → Result ServerView LineFault → SessionState → Set
with_server place (Ok v) s = Ok (record s { servers = slice_set s.servers place v })
with_server place (Err fault) s = Err fault

abbrev pub changed_at : ℕ → Option ServerView → Change → SessionState → Set
changed_at place None change s = Err BadName
changed_at place (Some v) change s = with_server place (change v) s

abbrev pub changed_place : Option ℕ → Change → SessionState → Set
changed_place None change s = Err BadName
changed_place (Some place) change s = changed_at place (slice_get s.servers place) change s

abbrev pub server_changed : NameView → Change → SessionState → Set
server_changed name change s = changed_place (server_at name s) change s

-- register k holds a value
abbrev pub with_start : ℕ → ℕ → Change
with_start k value v =
    if nat_lt k (length v.registers) then Ok (record v { registers = slice_set v.registers k value })
    else Err BadRecipe

-- its work is prepared
abbrev pub with_prepared : Change
with_prepared v = if is_some v.hand then Ok (record v { is_prepared = true }) else Err BadName

-- it was dropped
abbrev pub with_drop : Change
with_drop v = if is_none v.hand then Ok (record v { is_dropped = true }) else Err BadName

-- ---- workers

abbrev pub new_worker : ℕ → Worker
new_worker stage = record { stage = stage; hand = None; from = 0; end = None }

abbrev pub worker_set : NameView → ℕ → SessionState → Set
worker_set name stage s =
    if is_taken name s then Err BadName else Ok (with_worker name (new_worker stage) s)

-- how its last unit ended
abbrev pub ended_as : NameView → UnitEnd → Option Worker → SessionState → Set
ended_as name how None s = Err BadName
ended_as name how (Some w) s =
    if is_none w.end then Ok (with_worker name (record w { end = Some how }) s) else Err BadName

-- ---- servers and workers

-- what is in the hand of a server
abbrev pub server_has : Hand → Change
server_has h v = if is_none v.hand then Ok (record v { hand = Some h }) else Err BadName

-- or of a worker
abbrev pub has_hand : NameView → Hand → Option Worker → SessionState → Set
has_hand name h (Some w) s =
    if is_none w.hand then Ok (with_worker name (record w { hand = Some h }) s) else Err BadName
has_hand name h None s = server_changed name (server_has h) s

-- it was born, and the unit was drawn
abbrev pub hand_set : NameView → Hand → SessionState → Set
hand_set name h s =
    if nat_lt h.id s.store.next && nat_lt h.unit s.store.units then has_hand name h (worker_at name s) s
    else Err BadNumber

-- where `next` goes on, of a server
abbrev pub server_from : ℕ → Change
server_from id v = Ok (record v { from = id })

-- or of a worker
abbrev pub from_set : NameView → ℕ → Option Worker → SessionState → Set
from_set name id (Some w) s = Ok (with_worker name (record w { from = id }) s)
from_set name id None s = server_changed name (server_from id) s

-- ---- clients

abbrev pub register_set : NameView → SessionState → Set
register_set name s = if is_of_worker name s then Err BadName else Ok (registered name s)

abbrev pub renew_set : NameView → SessionState → Set
renew_set name s = if is_of_worker name s then Err BadName else Ok (renewed name s)

abbrev pub client_set : NameView → ClientNote → SessionState → Set
client_set name c s =
    if is_taken name s then Err BadName
    else if nat_lt c.owner s.owners then Ok (with_client name c s) else Err BadNumber

-- ---- elements

-- what the store was told back, unless that contradicts what it has
abbrev pub told_back : {A : Type 0} → Result A Refusal × State → SessionState → Set
told_back (Ok x, store) s = Ok (with_store store s)
told_back (Err why, store) s = Err BadNumber

abbrev pub numbers_set : ℕ → ℕ → ℕ → SessionState → Set
numbers_set next units owners s =
    if nat_lt owners s.owners then Err BadNumber
    else told_back (set_numbers_of next units s.store) (record s { owners = owners })

-- ---- all of them

abbrev pub set : HeadLine → SessionState → Set
set (head.Limit n) s = attempts_set n s
set (head.Max n) s = most_set n s
set (head.Keep n) s = keep_set n s
set (head.Server line) s = server_set line s
set (head.Start name k value) s = server_changed name (with_start k value) s
set (head.Worker name stage) s = worker_set name stage s
set (head.Register name) s = register_set name s
set (head.Renew name) s = renew_set name s
set (head.Numbers next units owners) s = numbers_set next units owners s
set (head.Element id e) s = told_back (put_back_of id e s.store) s
set (head.Over root) s = told_back (put_over_of root s.store) s
set (head.Settled stage consumed killed) s = told_back (set_settled_of stage consumed killed s.store) s
set (head.Hand name id unit tries) s = hand_set name (record { id = id; unit = unit; tries = tries }) s
set (head.Prepared name) s = server_changed name with_prepared s
set (head.Dropped name) s = server_changed name with_drop s
set (head.From name id) s = from_set name id (worker_at name s) s
set (head.Ended name how) s = ended_as name how (worker_at name s) s
set (head.Client name c) s = client_set name c s

-- such a line only `restore` brings to life: no other command may come behind it
abbrev pub awaits_restore : HeadLine → Bool
awaits_restore (head.Limit n) = false
awaits_restore (head.Max n) = false
awaits_restore (head.Keep n) = false
awaits_restore (head.Server line) = false
awaits_restore (head.Start name k value) = false
awaits_restore (head.Worker name stage) = false
awaits_restore (head.Register name) = false
awaits_restore (head.Renew name) = false
awaits_restore other = true

abbrev pub waiting_for : Bool → SessionState → SessionState
waiting_for true s = record s { phase = Restoring }
waiting_for false s = s

abbrev pub and_waits : Bool → Set → Set
and_waits waits (Ok s) = Ok (waiting_for waits s)
and_waits waits (Err fault) = Err fault

-- a line of the head, before the first command
abbrev pub head_set : HeadLine → SessionState → Set
head_set line s = and_waits (awaits_restore line) (set line s)
