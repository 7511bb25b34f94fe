use Rattle.tp_rollover.proofs.one_thread.alone_abort.Goals as goal
use Rattle.tp_rollover.proofs.AloneAborts.{alone_abort}

pub returns : goal.returns
returns c = alone_abort
