use Rattle.tp_server.proofs.Books.{all_raise_by_outputs}
use Rattle.tp_server.proofs.laws.outputs_add_up.Goals as goal

pub returns : goal.returns
returns c behaviour measure worth = all_raise_by_outputs
