use Rattle.std.proofs.Common.{length}
use Rattle.tp_workers.proofs.fork.+in_turn.Given as goal

abbrev pub decreases-in_turn : goal.decreases-in_turn
decreases-in_turn g l = length l.on.now
