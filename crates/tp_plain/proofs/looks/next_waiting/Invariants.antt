use Rattle.std.proofs.Common.{◌≡◌, take, None}
use Rattle.std.specs.List.{fold}
use Rattle.tp_plain.specs.Looks.{sooner}
use Rattle.tp_plain.proofs.looks.next_waiting.Given as goal

abbrev pub invariant-loop-look : goal.invariant-loop-look
invariant-loop-look l = l.best ≡ fold (sooner l.from l.stage) None (take l.look-index l.looks)
