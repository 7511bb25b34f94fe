use Rattle.std.proofs.Common.{◌∙◌, arith}
use Rattle.tp_pipeline.proofs.Careers.{goes_further}
use Rattle.tp_pipeline.proofs.service.collect_all.Goals as goal

pub loop-past-preserved : goal.loop-past-preserved
loop-past-preserved g c = record {
  steady = c.collect_one.ensures.steady;
  staffed = c.collect_one.ensures.staffed;
  goes_on = goes_further _ _ _ _ _ c.loop-past.invariant.goes_on c.collect_one.ensures.goes_on;
  add_up = c.collect_one.ensures.add_up;
  submitted = c.collect_one.ensures.submitted ∙ c.loop-past.invariant.submitted;
  more = omega (arith, c.loop-past.invariant.more, c.collect_one.ensures.left);
}
