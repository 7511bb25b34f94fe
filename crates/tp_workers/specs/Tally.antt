-- What workers count.
use Rattle.std.specs.Prelude.{ℕ, ◌+◌, List, [], ◌∷◌, Result, Ok, Err}
use Rattle.tp_model.specs.declared.types.Killed.{Killed}
use Rattle.tp_model.specs.declared.types.Refusal.{Refusal}
use Rattle.tp_model.specs.declared.types.Refusal.TheVariants as refusals
use Rattle.tp_server.specs.declared.turned.Turned.{Turned}
use Rattle.tp_server.specs.declared.turned.Turned.TheVariants as turneds
use Rattle.tp_workers.specs.declared.tally.Shift.{Shift}

-- nothing was done
abbrev pub empty_shift : Shift
empty_shift = record {
  done = 0;
  refused = 0;
  lost = 0;
  full = 0;
  idle = 0;
  nounit = 0;
  submitted = 0;
  submit_full = 0;
  killed = 0;
  late = 0;
  already = 0;
  missing = 0;
}

-- what two workers did together
abbrev pub plus : Shift → Shift → Shift
plus a b = record {
  done = a.done + b.done;
  refused = a.refused + b.refused;
  lost = a.lost + b.lost;
  full = a.full + b.full;
  idle = a.idle + b.idle;
  nounit = a.nounit + b.nounit;
  submitted = a.submitted + b.submitted;
  submit_full = a.submit_full + b.submit_full;
  killed = a.killed + b.killed;
  late = a.late + b.late;
  already = a.already + b.already;
  missing = a.missing + b.missing;
}

-- what all workers of a list did together
abbrev pub sum_of : List Shift → Shift
sum_of [] = empty_shift
sum_of (s ∷ ss) = plus s (sum_of ss)

-- all counts together
abbrev pub total : Shift → ℕ
total a =
    a.done + a.refused + a.lost + a.full + a.idle + a.nounit + a.submitted + a.submit_full + a.killed + a.late
    + a.already + a.missing

-- a turn with this answer
abbrev pub turn_count : Turned → Shift
turn_count turneds.Idle = record empty_shift { idle = 1 }
turn_count turneds.NoUnit = record empty_shift { nounit = 1 }
turn_count (turneds.Done unit element first outputs) = record empty_shift { done = 1 }
turn_count (turneds.Refused element why) = record empty_shift { refused = 1 }
turn_count (turneds.Lost element) = record empty_shift { lost = 1 }
turn_count (turneds.Full element) = record empty_shift { full = 1 }

-- a submit with this answer: a client's stage is a good one, so it is refused as Full alone
abbrev pub submit_count : Result ℕ Refusal → Shift
submit_count (Ok id) = record empty_shift { submitted = 1 }
submit_count (Err why) = record empty_shift { submit_full = 1 }

-- a kill that was refused so: as Consumed, AlreadyKilled, or NotThere
abbrev pub refusal_count : Refusal → Shift
refusal_count refusals.NoMemory = record empty_shift { missing = 1 }
refusal_count refusals.BadLimits = record empty_shift { missing = 1 }
refusal_count refusals.BadStage = record empty_shift { missing = 1 }
refusal_count refusals.NotThere = record empty_shift { missing = 1 }
refusal_count (refusals.Consumed unit) = record empty_shift { late = 1 }
refusal_count refusals.AlreadyKilled = record empty_shift { already = 1 }
refusal_count refusals.Full = record empty_shift { missing = 1 }
refusal_count refusals.NotParked = record empty_shift { missing = 1 }
refusal_count refusals.NoRound = record empty_shift { missing = 1 }
refusal_count refusals.NotHeld = record empty_shift { missing = 1 }
refusal_count refusals.NotWaiting = record empty_shift { missing = 1 }
refusal_count refusals.NoUnit = record empty_shift { missing = 1 }

-- a kill with this answer
abbrev pub kill_count : Result Killed Refusal → Shift
kill_count (Ok killed) = record empty_shift { killed = 1 }
kill_count (Err why) = refusal_count why

-- how many elements were claimed
abbrev pub claimed_in_all : Shift → ℕ
claimed_in_all s = s.done + s.refused + s.lost + s.full
