use Rattle.std.proofs.Common.{◌∙◌}
use Rattle.tp_pipeline.proofs.Careers.{goes_same}
use Rattle.tp_pipeline.proofs.service.answer.Goals as goal

pub returns-else-not-cancel-clause-goes_on : goal.returns-else-not-cancel-clause-goes_on
returns-else-not-cancel-clause-goes_on g c =
    goes_same _ _ _ _ (c.in_ok-cancel.ensures.call.same.starts ∙ c.in_ok-element.ensures.call.same.starts)

pub returns-in_ok-requeue-clause-goes_on : goal.returns-in_ok-requeue-clause-goes_on
returns-in_ok-requeue-clause-goes_on g c =
    goes_same _ _ _ _ (c.in_ok-requeue.ensures.call.same.starts ∙ c.in_ok-element.ensures.call.same.starts)
