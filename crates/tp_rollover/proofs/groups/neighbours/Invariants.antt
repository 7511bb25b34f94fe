use Rattle.std.proofs.Common.{◌≡◌, ◌+◌, ◌-◌, drop}
use Rattle.tp_rollover.specs.Anew.{neighbours, neighbours_in}
use Rattle.tp_rollover.proofs.groups.neighbours.Given as goal

abbrev pub invariant-loop-place : goal.invariant-loop-place
invariant-loop-place l = neighbours_in l.limits l.rest ≡ l.place + neighbours l.limits l.first (4 - l.place) (drop l.place l.rest)
