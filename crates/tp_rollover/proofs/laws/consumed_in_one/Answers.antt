use Rattle.tp_rollover.proofs.PairLaws as rolling
use Rattle.tp_rollover.proofs.laws.consumed_in_one.Goals as goal

pub returns : goal.returns
returns c = record { killed = rolling.consumed_in_one; settled = rolling.settled_not_carried }
