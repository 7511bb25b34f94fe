use Rattle.std.proofs.Common.{◌∙◌}
use Rattle.tp_pipeline.proofs.Careers.{goes_further, goes_same}
use Rattle.tp_pipeline.proofs.service.answer_all.Goals as goal

pub loop-past-preserved : goal.loop-past-preserved
loop-past-preserved g c = record {
  steady = c.in_ok-answer.ensures.steady;
  staffed = c.in_ok-answer.ensures.staffed;
  goes_on =
      let looked = goes_same _ _ _ _ c.next_error.ensures.call.same.starts in
      goes_further _ _ _ _ _ c.loop-past.invariant.goes_on (goes_further _ _ _ _ _ looked c.in_ok-answer.ensures.goes_on);
  add_up = c.in_ok-answer.ensures.add_up;
  submitted = c.in_ok-answer.ensures.submitted ∙ c.loop-past.invariant.submitted;
}

pub returns-in_default-clause-goes_on : goal.returns-in_default-clause-goes_on
returns-in_default-clause-goes_on g c =
    goes_further _ _ _ _ _ c.loop-past.invariant.goes_on (goes_same _ _ _ _ c.next_error.ensures.call.same.starts)
