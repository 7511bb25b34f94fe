use Rattle.tp_rollover.proofs.one_thread.alone_turn.Goals as goal
use Rattle.tp_rollover.proofs.AloneTurns.{alone_turn}

pub returns : goal.returns
returns c = alone_turn
