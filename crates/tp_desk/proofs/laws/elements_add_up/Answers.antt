use Rattle.tp_desk.proofs.Books.{serves_lowered, serves_raised}
use Rattle.tp_desk.proofs.laws.elements_add_up.Goals as goal

pub returns-clause-raised : goal.returns-clause-raised
returns-clause-raised c behaviour measure worth start registers old new = serves_raised

pub returns-clause-lowered : goal.returns-clause-lowered
returns-clause-lowered c behaviour measure worth start registers old new = serves_lowered
