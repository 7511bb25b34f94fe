use Rattle.tp_rollover.proofs.Lasting.{lasts}
use Rattle.tp_rollover.proofs.laws.space_lasts.Goals as goal

pub returns : goal.returns
returns c = lasts
