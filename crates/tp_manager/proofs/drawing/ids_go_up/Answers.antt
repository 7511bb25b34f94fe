use Rattle.tp_manager.proofs.Calls.Upwards as up
use Rattle.tp_manager.proofs.drawing.ids_go_up.Goals as goal

pub returns : goal.returns
returns c = record { up = up.ids_go_up }
