use Rattle.tp_exact.proofs.laws.exact_command.Goals as goal
use Rattle.tp_exact.proofs.Covered.{exact_command, exact_drain}

pub returns-clause-command : goal.returns-clause-command
returns-clause-command c = exact_command

pub returns-clause-drain : goal.returns-clause-drain
returns-clause-drain c = exact_drain
