use Rattle.tp_rollover.proofs.one_thread.alone_lists.Goals as goal
use Rattle.tp_rollover.proofs.AloneLists.{alone_error, alone_reply}

pub returns : goal.returns
returns c = record { reply = alone_reply; error = alone_error }
