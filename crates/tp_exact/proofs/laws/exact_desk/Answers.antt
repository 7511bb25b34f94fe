use Rattle.tp_exact.proofs.laws.exact_desk.Goals as goal
use Rattle.tp_exact.proofs.DeskActs.{exact_desk}

pub returns : goal.returns
returns c = exact_desk
