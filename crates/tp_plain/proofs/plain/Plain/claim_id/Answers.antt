use Rattle.std.proofs.Common.{◌≡◌, ◌<◌, ◌∙◌, sym, subst}
use Rattle.tp_model.specs.declared.types.Look.{Look}
use Rattle.tp_model.specs.declared.types.Status.{Status}
use Rattle.tp_model.specs.declared.types.Status.TheVariants.{Waiting}
use Rattle.tp_model.specs.History.{status_of}
use Rattle.tp_plain.specs.Computed.{with_claimed, work_on}
use Rattle.tp_plain.specs.Looks.{attempts_in}
use Rattle.tp_plain.specs.OneThread.{PlainTakesId, Waits, pass_at}
use Rattle.tp_plain.proofs.Given.{served, takes_id, waits_there}
use Rattle.tp_plain.proofs.plain.Plain.claim_id.Goals as goal
use Rattle.tp_plain.proofs.plain.Plain.claim_id.Goals.{In-Waiting}

stands : (c : In-Waiting) → status_of c.args.self.now.limits.attempts c.args.self.now.history c.args.id ≡ Waiting c.in-Waiting.attempts
stands c = sym c.in-Ok.ensures.answer.0.status ∙ c.in-Waiting.is

pub take-requires-clause-stage : goal.take-requires-clause-stage
take-requires-clause-stage c = served c.args.self.now c.args.id c.show_reached.ensures.legal c.in-Ok.look.element c.in-Ok.ensures.answer.0.element c.if-look-eq-REPLY_STAGE.false

pub take-requires-clause-waits : goal.take-requires-clause-waits
take-requires-clause-waits c = let s = c.args.self.now in let e = c.in-Ok.look.element in
    subst (λ (st : Status). Waits s e.stage e (attempts_in st)) (sym c.in-Waiting.is)
    (waits_there s c.args.id c.show_reached.ensures.legal e c.in-Ok.ensures.answer.0.element c.in-Waiting.attempts (stands (goal.at.take-requires-clause-waits c).In-Waiting))

pub returns-in-Waiting-clause-answer : goal.returns-in-Waiting-clause-answer
returns-in-Waiting-clause-answer c = let s = c.args.self.now in let e = c.in-Ok.look.element in
    let room : (pass_at s c.args.caller).claimed < s.limits.units = rw (← c.used_by-used.ensures, ← c.self.view_is) c.if-used-self.false in
    rw (c.take.ensures.work, c.take.ensures.state, c.used_by-used.ensures)
    (subst (λ (st : Status). let look : Look = record { element = e; status = st } in PlainTakesId s c.args.caller c.args.id (work_on s c.args.caller look) (with_claimed s c.args.caller look (pass_at s c.args.caller).turns)) (sym c.in-Waiting.is)
    (takes_id s c.args.caller c.args.id c.show_reached.ensures c.requires.pass e c.in-Ok.ensures.answer.0.element c.if-look-eq-REPLY_STAGE.false c.in-Waiting.attempts
    (stands (goal.at.returns-in-Waiting-clause-answer c).In-Waiting) room c.requires.free))
