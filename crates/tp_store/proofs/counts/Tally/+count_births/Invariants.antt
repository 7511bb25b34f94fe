use Rattle.std.proofs.Common.{length}
use Rattle.tp_store.proofs.counts.Tally.+count_births.Given as goal

-- proposed from what the function passes where it calls itself
abbrev pub decreases-count_births : goal.decreases-count_births
decreases-count_births l = length l.drafts.now
