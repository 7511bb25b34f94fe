use Rattle.tp_rollover.proofs.Freed as freed
use Rattle.tp_rollover.proofs.laws.free_is_plain.Goals as goal

pub returns : goal.returns
returns c = freed.free_is_plain
