use Rattle.tp_store.proofs.Retold.{told_and_taken_back}
use Rattle.tp_store.proofs.laws.told_and_taken_back.Goals as goal

pub returns : goal.returns
returns c = told_and_taken_back
