use Rattle.std.proofs.Common.{◌≡◌}
use Rattle.tp_kept.specs.Lines.{empty_lines}
use Rattle.tp_kept.proofs.taking.behind_empty_lines.Given as goal

abbrev pub invariant-loop : goal.invariant-loop
invariant-loop l = l.all.items ≡ empty_lines l.counter
