use Rattle.std.proofs.Common.{◌≡◌, ◌++◌, length}
use Rattle.tp_kept.specs.Lines.{given_in}
use Rattle.tp_kept.proofs.lines.given.Given as goal

-- the lines so far, and those of the rest
abbrev pub invariant-loop-place : goal.invariant-loop-place
invariant-loop-place l = given_in l.text ≡ l.lines.items ++ given_in l.rest

abbrev pub decreases-loop-place : goal.decreases-loop-place
decreases-loop-place l = length l.rest
