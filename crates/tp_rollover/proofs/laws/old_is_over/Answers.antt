use Rattle.tp_rollover.proofs.PairLaws as rolling
use Rattle.tp_rollover.proofs.laws.old_is_over.Goals as goal

pub returns : goal.returns
returns c = rolling.old_is_over
