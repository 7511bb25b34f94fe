use Rattle.std.proofs.Common.{◌≡◌, drop}
use Rattle.tp_kept.specs.Numbers.{behind_number}
use Rattle.tp_kept.proofs.numbers.behind_number.Given as goal

-- what was passed are digits
abbrev pub invariant-loop-at : goal.invariant-loop-at
invariant-loop-at l = behind_number (drop l.at l.bytes) ≡ behind_number l.bytes
