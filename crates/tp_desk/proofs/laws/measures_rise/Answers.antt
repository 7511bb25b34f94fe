use Rattle.tp_desk.proofs.Books.{serves_never_lower}
use Rattle.tp_desk.proofs.laws.measures_rise.Goals as goal

pub returns : goal.returns
returns c behaviour measure start registers old new = serves_never_lower
