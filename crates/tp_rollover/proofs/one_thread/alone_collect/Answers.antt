use Rattle.tp_rollover.proofs.one_thread.alone_collect.Goals as goal
use Rattle.tp_rollover.proofs.AloneReleases.{alone_collect}

pub returns : goal.returns
returns c = alone_collect
