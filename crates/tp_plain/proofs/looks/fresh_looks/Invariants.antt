use Rattle.std.proofs.Common.{◌≡◌, take, map}
use Rattle.tp_plain.specs.Looks.{fresh_look}
use Rattle.tp_plain.proofs.looks.fresh_looks.Given as goal

abbrev pub invariant-loop-element : goal.invariant-loop-element
invariant-loop-element l = l.looks.items ≡ map fresh_look (take l.element-index l.outs)
