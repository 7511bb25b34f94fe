use Rattle.tp_store.proofs.Wholes.{have_room, runs_are_histories}
use Rattle.tp_store.proofs.laws.runs_are_histories.Goals as goal

pub returns : goal.returns
returns c = record { histories = runs_are_histories; room = have_room }
