use Rattle.std.proofs.Common.{ap}
use Rattle.tp_pipeline.proofs.Audits.{agree_of}
use Rattle.tp_pipeline.proofs.Careers.{have_worked}
use Rattle.tp_pipeline.proofs.service.serve.Goals as goal

pub returns-clause-worked : goal.returns-clause-worked
returns-clause-worked g c =
    let each = c.each_payment.ensures in
    let crew = c.in_ok-crew.ensures in
    let items = ap (λ v. v.items) crew.boxes.0 in
    let worked = have_worked _ _ _ each.validated each.takings each.charges each.shipped _ _ _ crew.steady c.in_ok-run.ensures.steady items crew.folds c.in_ok-run.ensures.goes_on in
    rw (c.end-boxes.ensures.boxes) worked

pub returns-clause-agree : goal.returns-clause-agree
returns-clause-agree g c = agree_of _ _ _ _ _ _ c.in_ok-agree.ensures.agree c.deref.ensures.value
