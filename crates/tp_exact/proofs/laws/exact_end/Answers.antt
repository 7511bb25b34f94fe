use Rattle.tp_exact.proofs.laws.exact_end.Goals as goal
use Rattle.tp_exact.proofs.Accounts.{exact_account}
use Rattle.tp_exact.proofs.Finals.{exact_finals}

pub returns-clause-finals : goal.returns-clause-finals
returns-clause-finals c = exact_finals

pub returns-clause-account : goal.returns-clause-account
returns-clause-account c = exact_account
