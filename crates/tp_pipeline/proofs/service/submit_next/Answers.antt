use Rattle.std.proofs.Common.{arith, refl}
use Rattle.tp_pipeline.proofs.Careers.{goes_further, goes_same}
use Rattle.tp_pipeline.specs.Stops.{StopsBehind}
use Rattle.tp_pipeline.proofs.Submitting.{err_as, submits_more, submits_none}
use Rattle.tp_pipeline.proofs.service.submit_next.Goals as goal

pub loop-one-preserved : goal.loop-one-preserved
loop-one-preserved g c = record {
  steady = c.in_ok-submit_one.ensures.steady;
  staffed = c.in_ok-submit_one.ensures.staffed;
  goes_on = goes_further _ _ _ _ _ c.loop-one.invariant.goes_on c.in_ok-submit_one.ensures.goes_on;
  add_up = c.in_ok-submit_one.ensures.add_up;
  submits = submits_more _ _ _ _ _ _ c.loop-one.invariant.submits c.in_ok-submit_one.ensures.submitted c.in_ok-submit_one.ensures.submits;
  few = omega (arith, c.in_ok-submit_one.ensures.submitted, c.if-books-payments.false);
}

pub loop-one-init : goal.loop-one-init
loop-one-init g c = record {
  steady = c.requires.steady;
  staffed = c.requires.staffed;
  goes_on = goes_same _ _ _ _ refl;
  add_up = c.requires.add_up;
  few = c.requires.few;
  submits = submits_none _ _;
}

pub returns-in_err-submit_one-clause-stops : goal.returns-in_err-submit_one-clause-stops
returns-in_err-submit_one-clause-stops g c =
    err_as c.from_residual.result c.in_err-submit_one.field-0.0 (StopsBehind c.args.books.now.submitted c.args.crew.now c.submit_one.new.crew) c.from_residual.ensures.1
    (c.loop-one.books.submitted, c.loop-one.crew, c.loop-one.invariant.submits, c.in_err-submit_one.ensures.stops)
