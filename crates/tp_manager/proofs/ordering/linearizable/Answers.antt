use Rattle.tp_manager.proofs.Calls.Observed as observed
use Rattle.tp_manager.proofs.ordering.linearizable.Goals as goal

pub returns : goal.returns
returns c = record { said = observed.said_at_points; calls = observed.linearizable; pairs = observed.each_in_order }
