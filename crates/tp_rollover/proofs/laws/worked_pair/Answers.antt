use Rattle.tp_rollover.proofs.Worked as worked
use Rattle.tp_rollover.proofs.WorkedHeld as in_hand
use Rattle.tp_rollover.proofs.WorkedAlike as alike
use Rattle.tp_rollover.proofs.laws.worked_pair.Goals as goal

pub returns : goal.returns
returns c = record { worked = worked.pair; held = in_hand.pair; alike = alike.alike }
