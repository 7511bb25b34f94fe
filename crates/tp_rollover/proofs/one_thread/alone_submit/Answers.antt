use Rattle.tp_rollover.proofs.one_thread.alone_submit.Goals as goal
use Rattle.tp_rollover.proofs.AloneSubmits.{alone_submit}

pub returns : goal.returns
returns c = alone_submit
