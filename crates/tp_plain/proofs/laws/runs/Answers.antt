use Rattle.tp_plain.proofs.RunProofs.{runs_are_legal, runs_grow}
use Rattle.tp_plain.proofs.laws.runs.Goals as goal

pub returns : goal.returns
returns c = record { legal = runs_are_legal; grow = runs_grow }
