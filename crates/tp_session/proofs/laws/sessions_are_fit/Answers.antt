use Rattle.tp_session.proofs.Reached.{sessions_are_fit}
use Rattle.tp_session.proofs.laws.sessions_are_fit.Goals as goal

pub returns : goal.returns
returns c = sessions_are_fit
