use Rattle.tp_rollover.proofs.one_thread.alone_rounds.Goals as goal
use Rattle.tp_rollover.proofs.AloneLooks.{alone_rounds}

pub returns : goal.returns
returns c = alone_rounds
