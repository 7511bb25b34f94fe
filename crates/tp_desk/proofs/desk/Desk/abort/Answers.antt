use Rattle.tp_manager.specs.Bounds.{abort_steps}
use Rattle.tp_desk.proofs.Keeping.{emptied, gives_up, leaves}
use Rattle.tp_desk.proofs.desk.Desk.abort.Goals as goal

pub returns-clause-steady : goal.returns-clause-steady
returns-clause-steady g c =
    let up = gives_up c.args.self.now.pass.now c.abort.new.pass c.abort.result c.abort.ensures.answer in
    emptied _ _ _ _ _ _ _ _ _ (leaves _ _ _ _ _ _ _ _ c.requires.steady abort_steps up.0 c.abort.new.pass c.abort.ensures.follows up.1 up.2)
    c.clear.ensures.behaviour c.clear.ensures.registers c.clear.ensures.clear c.abort.ensures.free
