use Rattle.tp_pipeline.proofs.Careers.{goes_further}
use Rattle.tp_pipeline.proofs.service.run.Goals as goal

pub loop-batch-preserved : goal.loop-batch-preserved
loop-batch-preserved g c = record {
  steady = c.in_ok-batch.ensures.steady;
  staffed = c.in_ok-batch.ensures.staffed;
  goes_on = goes_further _ _ _ _ _ c.loop-batch.invariant.goes_on c.in_ok-batch.ensures.goes_on;
  add_up = c.in_ok-batch.ensures.add_up;
  few = c.in_ok-batch.ensures.few;
}
