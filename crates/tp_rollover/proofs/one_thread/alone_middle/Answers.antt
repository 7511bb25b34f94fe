use Rattle.tp_rollover.proofs.one_thread.alone_middle.Goals as goal
use Rattle.tp_rollover.proofs.AloneMiddles.{alone_middle}

pub returns : goal.returns
returns c = alone_middle
