use Rattle.tp_rollover.proofs.one_thread.alone_cancel.Goals as goal
use Rattle.tp_rollover.proofs.AloneCancels.{alone_cancel}

pub returns : goal.returns
returns c = alone_cancel
