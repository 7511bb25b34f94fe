use Rattle.tp_rollover.proofs.Tallies as tallies
use Rattle.tp_rollover.proofs.laws.accounts_add_up.Goals as goal

pub returns : goal.returns
returns c = tallies.rollover_adds_up
