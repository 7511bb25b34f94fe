use Rattle.tp_exact.proofs.laws.exact_program.Goals as goal
use Rattle.tp_exact.proofs.Scripts.{exact_program}

pub returns : goal.returns
returns c = exact_program
