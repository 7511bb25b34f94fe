use Rattle.tp_manager.specs.Bounds.{abort_steps}
use Rattle.tp_desk.proofs.Keeping.{emptied, gives_up, leaves}
use Rattle.tp_desk.proofs.desk.Desk.prepare.Goals as goal

pub returns-in-Err-clause-steady : goal.returns-in-Err-clause-steady
returns-in-Err-clause-steady g c =
    let up = gives_up c.args.self.now.pass.now c.abort.new.pass c.abort.result c.abort.ensures.answer in
    emptied _ _ _ _ _ _ _ _ _ (leaves _ _ _ _ _ _ _ _ c.requires.steady abort_steps up.0 c.abort.new.pass c.abort.ensures.follows up.1 up.2)
    c.in-Err.ensures.behaviour c.in-Err.ensures.registers c.in-Err.ensures.unprepared c.abort.ensures.free
