use Rattle.std.proofs.Common.{ap, sym, ◌∙◌}
use Rattle.tp_store.specs.Ends.{forget_one}
use Rattle.tp_store.proofs.Newborn.{forget_more, forget_none}
use Rattle.tp_store.proofs.ends.forget.Goals as goal

pub loop-step-init : goal.loop-step-init
loop-step-init c = record { forgets = sym (forget_none c.args.keep _); fewer = λ i none. none }

pub loop-step-preserved : goal.loop-step-preserved
loop-step-preserved c = record {
  forgets = c.forget_one.ensures.forgets ∙ (ap (forget_one c.args.keep) c.loop-step.invariant.forgets ∙ sym (forget_more c.loop-step._step c.args.keep _));
  fewer = λ i none. c.forget_one.ensures.fewer i (c.loop-step.invariant.fewer i none);
}
