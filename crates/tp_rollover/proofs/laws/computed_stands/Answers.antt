use Rattle.tp_rollover.proofs.StandsAnew as anew
use Rattle.tp_rollover.proofs.laws.computed_stands.Goals as goal

pub returns : goal.returns
returns c = record { stands = anew.computed_stands; alike = anew.computed_is_alike; held = anew.computed_is_held }
