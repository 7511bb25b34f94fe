use Rattle.tp_session.proofs.AskingLemmas.{asking_changes_nothing}
use Rattle.tp_session.proofs.laws.asking_changes_nothing.Goals as goal

pub returns : goal.returns
returns c = asking_changes_nothing
