use Rattle.std.proofs.Common.{All, length, take}
use Rattle.tp_rollover.specs.Runs.{StaysInPart}
use Rattle.tp_rollover.proofs.births.run_of.Given as goal

abbrev pub invariant-loop-place : goal.invariant-loop-place
invariant-loop-place l = All (StaysInPart l.limits (length l.passes) l.at l.families) (take l.place l.rest)
