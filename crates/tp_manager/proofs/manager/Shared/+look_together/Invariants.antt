use Rattle.std.proofs.Common.{length}
use Rattle.tp_manager.proofs.manager.Shared.+look_together.Given as goal

abbrev pub decreases-look_together : goal.decreases-look_together
decreases-look_together l = length l.passes.now
