-- Sums over lists of workers.
use Rattle.std.specs.Prelude.{ℕ, ◌-◌, length}
use Rattle.tp_workers.specs.declared.killer.KillJob.{KillJob}
use Rattle.tp_workers.specs.declared.tally.Shift.{Shift}
use Rattle.tp_workers.specs.Clients.{JobShown}
use Rattle.tp_workers.specs.Tally.{empty_shift}

-- how many calls the client is to make, and how many ids the killer is to take
abbrev pub calls_of : JobShown → ℕ
calls_of j = length j.bodies

abbrev pub size_of_range : KillJob → ℕ
size_of_range j = j.end - j.first

-- the counts of desks, of clients and of killers
abbrev pub desk_part : Shift → Shift
desk_part s = record empty_shift {
  done = s.done;
  refused = s.refused;
  lost = s.lost;
  full = s.full;
  idle = s.idle;
  nounit = s.nounit;
}

abbrev pub client_part : Shift → Shift
client_part s = record empty_shift { submitted = s.submitted; submit_full = s.submit_full }

abbrev pub killer_part : Shift → Shift
killer_part s =
    record empty_shift { killed = s.killed; late = s.late; already = s.already; missing = s.missing }
