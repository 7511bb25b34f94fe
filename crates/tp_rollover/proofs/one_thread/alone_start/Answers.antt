use Rattle.tp_rollover.proofs.one_thread.alone_start.Goals as goal
use Rattle.tp_rollover.proofs.AloneStarts.{alone_none, alone_start}

pub returns : goal.returns
returns c = record { none = alone_none; start = alone_start }
