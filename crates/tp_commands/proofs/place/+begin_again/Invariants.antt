use Rattle.std.proofs.Common.{length}
use Rattle.tp_commands.proofs.place.+begin_again.Given as goal

abbrev pub decreases-begin_again : goal.decreases-begin_again
decreases-begin_again g l = length l.passes.now
