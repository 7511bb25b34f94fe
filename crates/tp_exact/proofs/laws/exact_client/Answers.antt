use Rattle.tp_exact.proofs.laws.exact_client.Goals as goal
use Rattle.tp_exact.proofs.Clients.{exact_client}

pub returns : goal.returns
returns c = exact_client
