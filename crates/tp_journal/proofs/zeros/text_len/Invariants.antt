use Rattle.std.proofs.Common.{◌≤◌, ◌-◌, length, take}
use Rattle.tp_journal.specs.Text.{IsText}
use Rattle.tp_journal.proofs.zeros.text_len.Given as goal

abbrev pub invariant-loop-len : goal.invariant-loop-len
invariant-loop-len l = record { inside : l.len ≤ length l.bytes; set : IsText (take l.len l.bytes) }

abbrev pub decreases-loop-len : goal.decreases-loop-len
decreases-loop-len l = length l.bytes - l.len
