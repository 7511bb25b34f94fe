use Rattle.tp_plain.proofs.RunProofs.{cancelled_for_good}
use Rattle.tp_plain.proofs.laws.cancelled_for_good.Goals as goal

pub returns : goal.returns
returns c = cancelled_for_good
