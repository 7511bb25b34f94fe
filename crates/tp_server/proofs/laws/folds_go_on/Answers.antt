use Rattle.tp_server.proofs.Onward as onward
use Rattle.tp_server.proofs.laws.folds_go_on.Goals as goal

pub returns : goal.returns
returns c = onward.folds_go_on
