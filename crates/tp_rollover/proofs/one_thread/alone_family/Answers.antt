use Rattle.tp_rollover.proofs.one_thread.alone_family.Goals as goal
use Rattle.tp_rollover.proofs.AloneMembers.{alone_family}

pub returns : goal.returns
returns c = alone_family
