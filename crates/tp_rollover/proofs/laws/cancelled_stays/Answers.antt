use Rattle.tp_rollover.proofs.PairLaws as rolling
use Rattle.tp_rollover.proofs.laws.cancelled_stays.Goals as goal

pub returns : goal.returns
returns c = rolling.cancelled_stays
