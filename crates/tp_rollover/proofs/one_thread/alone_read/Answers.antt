use Rattle.tp_rollover.proofs.one_thread.alone_read.Goals as goal
use Rattle.tp_rollover.proofs.AloneLooks.{alone_read}

pub returns : goal.returns
returns c = alone_read
