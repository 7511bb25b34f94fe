use Rattle.tp_rollover.proofs.one_thread.alone_idle.Goals as goal
use Rattle.tp_rollover.proofs.AloneIdle.{alone_idle}

pub returns : goal.returns
returns c = alone_idle
