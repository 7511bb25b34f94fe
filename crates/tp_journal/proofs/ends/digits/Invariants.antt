use Rattle.std.proofs.Common.{◌≤◌, ◌-◌, length, take}
use Rattle.std.specs.Prelude.{All}
use Rattle.tp_journal.specs.Text.{IsDigit}
use Rattle.tp_journal.proofs.ends.digits.Given as goal

abbrev pub invariant-loop-count : goal.invariant-loop-count
invariant-loop-count l = record { inside : l.count ≤ length l.bytes; digits : All IsDigit (take l.count l.bytes) }

abbrev pub decreases-loop-count : goal.decreases-loop-count
decreases-loop-count l = length l.bytes - l.count
