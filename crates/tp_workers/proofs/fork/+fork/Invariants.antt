use Rattle.std.proofs.Common.{◌+◌, ◌*◌, length, max}
use Rattle.tp_workers.proofs.fork.+fork.Given as goal

abbrev pub decreases-halves-one : goal.decreases-halves-one
decreases-halves-one g l = 3 * length l.front.now + 1

abbrev pub decreases-halves-other : goal.decreases-halves-other
decreases-halves-other g l = 3 * length l.back.now + 1

abbrev pub decreases-fork : goal.decreases-fork
decreases-fork g l = 3 * length l.on.now

abbrev pub decreases-halves : goal.decreases-halves
decreases-halves g l = 3 * max (length l.front.on.now) (length l.back.on.now) + 2
