use Rattle.tp_rollover.proofs.one_thread.gathered_together.Goals as goal
use Rattle.tp_rollover.proofs.AloneGatherings.{gathered_together}
use Rattle.tp_rollover.proofs.AloneStarts.{attends_stays}

pub returns : goal.returns
returns c = record { stays = attends_stays; together = gathered_together }
