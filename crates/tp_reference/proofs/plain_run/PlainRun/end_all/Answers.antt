use Rattle.std.proofs.Common.{◌+◌, ◌∙◌, ap, refl, sym}
use Rattle.tp_reference.specs.PlainDesks.{after_giving_up}
use Rattle.tp_reference.proofs.ReportLemmas.{ended_none, ended_more}
use Rattle.tp_reference.proofs.plain_run.PlainRun.end_all.Goals as goal

pub loop-at-init : goal.loop-at-init
loop-at-init c = record { ended = sym (ended_none c.args.self.now.plain); limits = refl }

pub loop-at-preserved : goal.loop-at-preserved
loop-at-preserved c = record {
  ended = c.give_up.ensures.gives ∙ ap (after_giving_up c.loop-at.self.plain) c.worker.ensures ∙ ap (λ m. after_giving_up m (c.loop-at.at + 1)) c.loop-at.invariant.ended
      ∙ sym (ended_more c.args.self.now.plain c.loop-at.at);
  limits = c.give_up.ensures.limits ∙ c.loop-at.invariant.limits;
}
