use Rattle.tp_pipeline.proofs.Careers.{goes_same}
use Rattle.tp_pipeline.proofs.service.work_on_threads.Goals as goal

pub returns-clause-goes_on : goal.returns-clause-goes_on
returns-clause-goes_on g c = goes_same _ _ _ _ c.shift.ensures.same.starts
