use Rattle.std.proofs.Common.{◌≡◌, sym, ◌∙◌}
use Rattle.tp_model.specs.declared.types.Status.TheVariants.{Held}
use Rattle.tp_model.specs.History.{status_of}
use Rattle.tp_plain.proofs.Kills.{may_abort}
use Rattle.tp_plain.proofs.plain.Plain.release.Goals as goal
use Rattle.tp_plain.proofs.plain.Plain.release.Goals.{In-Held}

held : (c : In-Held) → status_of c.args.self.now.limits.attempts c.args.self.now.history c.args.id ≡ Held c.in-Held.unit c.in-Held.attempt
held c = sym c.in-Ok.ensures.answer.0.status ∙ c.in-Held.is

pub mark-requires-clause-step : goal.mark-requires-clause-step
mark-requires-clause-step c =
    may_abort c.args.self.now.limits c.args.self.now.history c.args.caller c.args.id c.in-Held.unit c.in-Held.attempt c.requires.pass c.show_reached.ensures.legal (held (goal.at.mark-requires-clause-step c).In-Held)

pub returns-in-Held-clause-answer : goal.returns-in-Held-clause-answer
returns-in-Held-clause-answer c = let is = held (goal.at.returns-in-Held-clause-answer c).In-Held in
    (is, may_abort c.args.self.now.limits c.args.self.now.history c.args.caller c.args.id c.in-Held.unit c.in-Held.attempt c.requires.pass c.show_reached.ensures.legal is, c.mark.ensures)
