use Rattle.tp_manager.proofs.Claims.EachTurn.{each_has_its_turn}
use Rattle.tp_manager.proofs.claiming_next.turns_come.Goals as goal

pub returns : goal.returns
returns c = record { come = each_has_its_turn }
