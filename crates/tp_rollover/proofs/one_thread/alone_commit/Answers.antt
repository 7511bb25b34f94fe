use Rattle.tp_rollover.proofs.one_thread.alone_commit.Goals as goal
use Rattle.tp_rollover.proofs.AloneCommits.{alone_commit}

pub returns : goal.returns
returns c = alone_commit
