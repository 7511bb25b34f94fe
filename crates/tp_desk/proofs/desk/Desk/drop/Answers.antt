use Rattle.tp_desk.proofs.Keeping.{left}
use Rattle.tp_desk.proofs.desk.Desk.drop.Goals as goal

pub returns-clause-leaves : goal.returns-clause-leaves
returns-clause-leaves g c = λ steady.
    left _ _ _ _ _ _ _ _ _ _ steady c.clear.ensures.behaviour c.clear.ensures.registers c.close.new.pass c.close.ensures.shows c.close.ensures.adds c.close.ensures.follows
