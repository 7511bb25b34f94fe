use Rattle.tp_manager.proofs.Calls.Upwards as up
use Rattle.tp_manager.proofs.claiming.first_in_first_out.Goals as goal

pub returns : goal.returns
returns c = record { first = up.first_in_first_out }
