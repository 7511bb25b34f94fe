use Rattle.std.proofs.Common.{◌∙◌, arith}
use Rattle.tp_pipeline.proofs.Audits.{shows_as}
use Rattle.tp_pipeline.proofs.audit.agree.Goals as goal

pub returns-clause-agree : goal.returns-clause-agree
returns-clause-agree g c =
    let due = c.in-Some.ensures.due in
    record {
      validated = shows_as _ _ _ _ _ _ c.in_ok-register.ensures.shows (c.in_ok-same.ensures.same ∙ due.0);
      takings = shows_as _ _ _ _ _ _ c.in_ok-register-2.ensures.shows (c.in_ok-same-2.ensures.same ∙ due.1);
      charges = shows_as _ _ _ _ _ _ c.in_ok-register-3.ensures.shows (c.in_ok-same-3.ensures.same ∙ due.0);
      first = c.in_ok-first.first;
      second = c.in_ok-second.second;
      first_shipped = c.in_ok-first.ensures.shows;
      second_shipped = c.in_ok-second.ensures.shows;
      shipped = omega (arith, c.in-Some-checked_add.ensures, c.in_ok-same-4.ensures.same, due.0);
      collected = c.in_ok-same-5.ensures.same ∙ due.0;
      paid = c.in_ok-same-6.ensures.same ∙ due.1;
      closed = c.requires.closed;
    }
