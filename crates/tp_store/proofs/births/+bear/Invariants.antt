use Rattle.std.proofs.Common.{length}
use Rattle.tp_store.proofs.births.+bear.Given as goal

abbrev pub decreases-bear : goal.decreases-bear
decreases-bear l = length l.drafts.now
