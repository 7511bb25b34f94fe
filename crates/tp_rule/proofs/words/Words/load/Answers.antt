use Rattle.tp_rule.proofs.Seats.{looks}
use Rattle.tp_rule.proofs.words.Words.load.Goals as goal

pub load-requires-clause-permits : goal.load-requires-clause-permits
load-requires-clause-permits c = looks _ _ _ c.requires.pass
