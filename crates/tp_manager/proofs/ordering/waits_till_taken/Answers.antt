use Rattle.tp_manager.proofs.Calls.Waits as waits
use Rattle.tp_manager.proofs.ordering.waits_till_taken.Goals as goal

pub returns : goal.returns
returns c = record { first = waits.waits_at_first; waits = waits.waits_till_taken; idle = waits.idle_if_taken }
