use Rattle.tp_pipeline.proofs.Careers.{goes_same}
use Rattle.tp_pipeline.proofs.service.submit_one.Goals as goal

pub returns-clause-goes_on : goal.returns-clause-goes_on
returns-clause-goes_on g c = goes_same _ _ _ _ c.in_ok-root.ensures.call.same.starts
