use Rattle.std.proofs.Common.{◌≡◌, replicate}
use Rattle.tp_plain.proofs.plain.fresh_rounds.Given as goal

abbrev pub invariant-loop : goal.invariant-loop
invariant-loop l = l.rounds.items ≡ replicate l.counter 0
