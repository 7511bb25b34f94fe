use Rattle.tp_session.proofs.Retold.{dump_makes_the_same}
use Rattle.tp_session.proofs.laws.dump_makes_the_same.Goals as goal

pub returns : goal.returns
returns c = dump_makes_the_same
