use Rattle.tp_desk.proofs.Books.{serves_raised_by_outputs}
use Rattle.tp_desk.proofs.laws.outputs_add_up.Goals as goal

pub returns : goal.returns
returns c behaviour measure worth start registers old new = serves_raised_by_outputs
