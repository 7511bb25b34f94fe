use Rattle.tp_reference.proofs.laws.drains_end.Goals as goal
use Rattle.tp_reference.proofs.DrainEnds.{drains_end}

pub returns : goal.returns
returns c = drains_end
