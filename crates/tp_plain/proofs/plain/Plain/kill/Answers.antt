use Rattle.std.proofs.Common.{sym, ◌∙◌, ap}
use Rattle.tp_model.specs.declared.event.Event.TheVariants.{Kill}
use Rattle.tp_plain.specs.OneThread.{State, extended}
use Rattle.tp_plain.proofs.Kills.{may_abort, may_kill_after}
use Rattle.tp_plain.proofs.plain.Plain.kill.Goals as goal

pub mark-requires-clause-step : goal.mark-requires-clause-step
mark-requires-clause-step c =
    let s = c.args.self.now in
    let held = sym c.in-Ok.ensures.answer.0.status ∙ c.in-Held.is in
    may_abort s.limits s.history c.args.caller c.args.id c.in-Held.unit c.in-Held.attempt c.requires.pass c.show_reached.ensures.legal held

pub mark-requires-in-Held-clause-step : goal.mark-requires-in-Held-clause-step
mark-requires-in-Held-clause-step c =
    let s = c.args.self.now in
    let held = sym c.in-Ok.ensures.answer.0.status ∙ c.in-Held.is in
    rw c.mark.ensures (may_kill_after s.limits s.history c.args.caller c.args.id c.in-Held.unit c.in-Held.attempt c.in-Ok.look.element c.requires.pass c.in-Ok.ensures.answer.0.element held)

pub returns-in-Held-clause-answer : goal.returns-in-Held-clause-answer
returns-in-Held-clause-answer c =
    let s = c.args.self.now in
    let held = sym c.in-Ok.ensures.answer.0.status ∙ c.in-Held.is in (
      c.in-Held.unit,
      c.in-Held.attempt,
      held,
      may_abort s.limits s.history c.args.caller c.args.id c.in-Held.unit c.in-Held.attempt c.requires.pass c.show_reached.ensures.legal held,
      may_kill_after s.limits s.history c.args.caller c.args.id c.in-Held.unit c.in-Held.attempt c.in-Ok.look.element c.requires.pass c.in-Ok.ensures.answer.0.element held,
      c.mark-in-Held.ensures ∙ ap (λ (x : State). extended x (Kill c.args.caller c.args.id)) c.mark.ensures,
    )
