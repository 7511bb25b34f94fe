use Rattle.tp_pipeline.proofs.Careers.{goes_same}
use Rattle.tp_pipeline.proofs.service.collect_one.Goals as goal

pub returns-in_default-clause-goes_on : goal.returns-in_default-clause-goes_on
returns-in_default-clause-goes_on g c = goes_same _ _ _ _ c.collect_next.ensures.call.same.starts

pub returns-clause-goes_on : goal.returns-clause-goes_on
returns-clause-goes_on g c = goes_same _ _ _ _ c.collect_next.ensures.call.same.starts
