use Rattle.tp_manager.proofs.Marks.Again.{again_few}
use Rattle.tp_manager.proofs.claiming.few_again.Goals as goal

pub returns : goal.returns
returns c = record { few = again_few }
