use Rattle.tp_model.proofs.LawProofs.{settled_stay}
use Rattle.tp_model.proofs.laws.finished_stays.Goals as goal

pub returns : goal.returns
returns c = settled_stay
