use Rattle.std.proofs.Common.{◌≤◌, ◌-◌, length, take}
use Rattle.std.specs.Prelude.{All}
use Rattle.tp_journal.specs.Text.{IsPlain}
use Rattle.tp_journal.proofs.batch.plain_len.Given as goal

abbrev pub invariant-loop-len : goal.invariant-loop-len
invariant-loop-len l = record { inside : l.len ≤ length l.batch; plain : All IsPlain (take l.len l.batch) }

abbrev pub decreases-loop-len : goal.decreases-loop-len
decreases-loop-len l = length l.batch - l.len
