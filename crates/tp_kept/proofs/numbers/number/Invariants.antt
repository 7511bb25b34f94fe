use Rattle.std.proofs.Common.{◌≡◌, drop}
use Rattle.tp_kept.specs.Numbers.{number_from}
use Rattle.tp_kept.proofs.numbers.number.Given as goal

-- the number so far, and the digits to come
abbrev pub invariant-loop-byte : goal.invariant-loop-byte
invariant-loop-byte l = number_from l.number (drop l.byte-index l.bytes) ≡ number_from 0 l.bytes
