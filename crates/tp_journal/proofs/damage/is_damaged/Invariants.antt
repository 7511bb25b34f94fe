use Rattle.std.proofs.Common.{◌≤◌, ◌-◌, ◌+◌, length}
use Rattle.tp_journal.specs.Text.{IsDamage}
use Rattle.tp_journal.proofs.damage.is_damaged.Given as goal

abbrev pub invariant-loop-at : goal.invariant-loop-at
invariant-loop-at l = record { begun : 1 ≤ l.at; none : (d : IsDamage l.begin l.rest) → l.at ≤ length d.front + 1 }

abbrev pub decreases-loop-at : goal.decreases-loop-at
decreases-loop-at l = length l.rest - l.at
