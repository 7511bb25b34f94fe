use Rattle.tp_rollover.proofs.one_thread.alone_requeue.Goals as goal
use Rattle.tp_rollover.proofs.AloneRequeues.{alone_requeue}

pub returns : goal.returns
returns c = alone_requeue
