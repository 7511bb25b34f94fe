use Rattle.std.proofs.Common.{◌≡◌}
use Rattle.tp_perform.specs.Roots.{roots_below}
use Rattle.tp_perform.proofs.roots.roots_of.Given as goal

abbrev pub invariant-loop-at : goal.invariant-loop-at
invariant-loop-at l = l.roots.items ≡ roots_below l.moved l.at
