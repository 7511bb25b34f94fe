use Rattle.tp_crew.proofs.Careers.{careers_add_up}
use Rattle.tp_crew.proofs.laws.careers_add_up.Goals as goal

pub returns : goal.returns
returns g c = careers_add_up _ _
