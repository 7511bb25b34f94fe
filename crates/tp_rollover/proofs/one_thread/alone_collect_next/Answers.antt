use Rattle.tp_rollover.proofs.one_thread.alone_collect_next.Goals as goal
use Rattle.tp_rollover.proofs.AloneMembers.{alone_collect_next}

pub returns : goal.returns
returns c = alone_collect_next
