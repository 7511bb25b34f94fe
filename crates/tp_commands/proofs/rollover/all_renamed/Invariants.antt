use Rattle.std.proofs.Common.{◌≡◌, map, take}
use Rattle.tp_commands.specs.Rollover.{renamed}
use Rattle.tp_commands.proofs.rollover.all_renamed.Given as goal

abbrev pub invariant-loop-element : goal.invariant-loop-element
invariant-loop-element l = l.all.items ≡ map renamed (take l.element-index l.moved)
