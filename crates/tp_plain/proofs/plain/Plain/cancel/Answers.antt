use Rattle.std.proofs.Common.{sym, ◌∙◌}
use Rattle.tp_plain.proofs.Cancels.{cancels, not_some}
use Rattle.tp_plain.proofs.plain.Plain.cancel.Goals as goal

pub returns-clause-answer : goal.returns-clause-answer
returns-clause-answer c =
    let s = c.args.self.now in
    let none = not_some c.in-Ok.look.element.by (sym c.is_some.ensures ∙ c.if-is_some.false) in
    rw (c.kill_family-killed.ensures.killed, c.kill_family-killed.ensures.state)
    (cancels s c.args.caller c.args.root c.requires.pass c.show_reached.ensures.legal (c.in-Ok.look.element, c.in-Ok.ensures.answer.0.element, none))
