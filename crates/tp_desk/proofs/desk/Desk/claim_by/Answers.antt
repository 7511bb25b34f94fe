use Rattle.std.proofs.Common.{◌∙◌, ap, subst}
use Rattle.tp_desk.specs.Orders.{ClaimsBy}
use Rattle.tp_desk.proofs.Keeping.{claimed}
use Rattle.tp_desk.proofs.desk.Desk.claim_by.Goals as goal

pub returns-clause-steady : goal.returns-clause-steady
returns-clause-steady g c =
    rw c.work_of-self.ensures (claimed _ _ _ _ _ _ _ _ _ _ c.args.order _ _ c.claim_in-answer.result c.requires.free c.requires.steady c.claim_in-answer.ensures.follows c.claim_in-answer.ensures.answer)

pub returns-clause-answer : goal.returns-clause-answer
returns-clause-answer g c =
    let stage = c.stage-stage.ensures.0 ∙ ap (λ z. ((goal.Server-dyn g z).behaviour z.1).stage) c.deref_box-1.ensures.1 in
    subst (λ n. ClaimsBy c.args.order c.args.self.now.manager.now.limits n c.args.self.now.pass.now c.claim_in-answer.new.pass c.claim_in-answer.result) stage c.claim_in-answer.ensures.answer
