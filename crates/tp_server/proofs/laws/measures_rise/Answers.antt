use Rattle.tp_server.proofs.Books.{all_never_lower}
use Rattle.tp_server.proofs.laws.measures_rise.Goals as goal

pub returns : goal.returns
returns c behaviour measure = all_never_lower
