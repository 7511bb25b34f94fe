use Rattle.tp_rollover.proofs.one_thread.alone_kill.Goals as goal
use Rattle.tp_rollover.proofs.AloneKills.{alone_kill}

pub returns : goal.returns
returns c = alone_kill
