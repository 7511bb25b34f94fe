use Rattle.tp_rollover.proofs.Restored.{restored_rolls}
use Rattle.tp_rollover.proofs.laws.restored_is_rolled_over.Goals as goal

pub returns : goal.returns
returns c = restored_rolls
