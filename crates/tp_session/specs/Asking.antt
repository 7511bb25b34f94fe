-- Lines that only ask: they change nothing, whatever they are answered.
use Rattle.std.specs.Prelude.{ℕ, Bool, true, false, if◌then◌else◌, is_none, is_some, List, Option, Some, None, Result, Ok, Err}
use Rattle.tp_script.specs.declared.fault.LineFault.{LineFault}
use Rattle.tp_lines.specs.Names.{NameView}
use Rattle.tp_lines.specs.Tags.{tagged_said}
use Rattle.tp_lines.specs.declared.line.Act.{Act}
use Rattle.tp_lines.specs.declared.line.Act.TheVariants as acts
use Rattle.tp_lines.specs.declared.line.Command.{Command}
use Rattle.tp_lines.specs.declared.line.Command.TheVariants as commands
use Rattle.tp_lines.specs.declared.line.Line.{Line}
use Rattle.tp_lines.specs.declared.line.Line.TheVariants as lines
use Rattle.tp_store.specs.Listing.{first_of}
use Rattle.tp_store.specs.State.{State}
use Rattle.tp_store.specs.declared.group.Group.TheVariants.{Queue}
use Rattle.tp_session.specs.Roles.{worker_at}
use Rattle.tp_session.specs.Session.{has_begun}
use Rattle.tp_session.specs.State.{SessionState}
use Rattle.tp_session.specs.declared.worker.Worker.{Worker}

-- what a worker claims it doesn't get: it has something in hand, or nothing waits in its stage
abbrev pub gets_none : Option Worker → State → Bool
gets_none None s = false
gets_none (Some w) s = if is_some w.hand then true else is_none (first_of (Queue w.stage) 0 s.elements)

abbrev pub act_asks : NameView → Act → SessionState → Bool
act_asks name acts.Claim s = gets_none (worker_at name s) s.store
act_asks name acts.Next s = gets_none (worker_at name s) s.store
act_asks name other s = false

-- it only tells, or claims what it doesn't get
abbrev pub asks : Command → SessionState → Bool
asks (commands.Act name act) s = act_asks name act s
asks (commands.Read id) s = true
asks (commands.Reply root) s = true
asks (commands.Family root) s = true
asks commands.Errors s = true
asks commands.Count s = true
asks commands.Depth s = true
asks (commands.List stage from) s = true
asks commands.Account s = true
asks commands.Holds s = true
asks commands.Dump s = true
asks (commands.Sum k) s = true
asks (commands.Balance name k) s = true
asks (commands.Last name) s = true
asks other s = false

-- so does an empty line
abbrev pub line_asks : Line → SessionState → Bool
line_asks lines.Nothing s = true
line_asks lines.Version s = true
line_asks (lines.Do c) s = asks c s
line_asks (lines.Head l) s = false

-- and a faulty one
abbrev pub said_asks : Result Line LineFault → SessionState → Bool
said_asks (Ok l) s = line_asks l s
said_asks (Err fault) s = true

-- each of them behind the head: the first command ends it
abbrev pub only_asks : List ℕ → SessionState → Bool
only_asks bytes s = if has_begun s.phase then said_asks (tagged_said bytes) s else false
