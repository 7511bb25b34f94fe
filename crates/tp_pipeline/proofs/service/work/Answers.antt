use Rattle.tp_pipeline.proofs.Careers.{goes_further, goes_same}
use Rattle.tp_pipeline.proofs.service.work.Goals as goal

pub returns-clause-goes_on : goal.returns-clause-goes_on
returns-clause-goes_on g c =
    goes_further _ _ _ _ _ c.work_on_threads.ensures.goes_on (goes_same _ _ _ _ c.drain.ensures.same.starts)
