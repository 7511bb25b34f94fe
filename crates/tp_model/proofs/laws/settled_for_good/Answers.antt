use Rattle.tp_model.proofs.Families.{never_worked_on, settled_family_stays}
use Rattle.tp_model.proofs.laws.settled_for_good.Goals as goal

pub returns : goal.returns
returns c = record { never = never_worked_on; stays = settled_family_stays }
