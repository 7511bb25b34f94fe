use Rattle.std.proofs.Common.{◌∙◌, ◌+◌, ◌-◌, ap, arith, length, subst}
use Rattle.std.specs.Option.{option_and_then}
use Rattle.tp_rollover.specs.Anew.{attempts_made}
use Rattle.tp_rollover.specs.Bounds.{AllMake, attempt_steps}
use Rattle.tp_rollover.specs.Lone.{lone}
use Rattle.tp_rollover.proofs.Agreeing.{stops_first}
use Rattle.tp_rollover.proofs.ReplaysAll.{tried_at, tried_none}
use Rattle.tp_rollover.proofs.Steps.{once_more}
use Rattle.tp_rollover.proofs.replays.attempts.Goals as goal

pub returns-in_default-clause-gives : goal.returns-in_default-clause-gives
returns-in_default-clause-gives c =
    c.loop-time.invariant.goes_on
    ∙ tried_none (length c.args.passes.now) (length c.loop-time.passes) c.args.kept.now c.args.id c.args.times c.loop-time._time c.loop-time.from (lone c.args.manager.now c.loop-time.keeper c.loop-time.passes) c.loop-time-test.true c.loop-time.auto.passes (c.in_default.ensures.first c.loop-time.keeper.seen)

pub returns-in_err-attempt_by-clause-gives : goal.returns-in_err-attempt_by-clause-gives
returns-in_err-attempt_by-clause-gives c =
    stops_first c.from_residual.result c.in_err-attempt_by.field-0.0 _ _ _ c.from_residual.ensures.1 (λ after. attempts_made (length c.args.passes.now) c.args.kept.now c.args.id (c.args.times - (c.loop-time._time + 1)) (c.in-Some.at, after)) _
    (c.loop-time.invariant.goes_on
    ∙ tried_at (length c.args.passes.now) (length c.loop-time.passes) c.args.kept.now c.args.id c.args.times c.loop-time._time c.loop-time.from (lone c.args.manager.now c.loop-time.keeper c.loop-time.passes) c.loop-time-test.true c.loop-time.auto.passes c.in-Some.at (c.in-Some.ensures.first c.loop-time.keeper.seen))
    c.in_err-attempt_by.ensures.gives

pub loop-time-preserved : goal.loop-time-preserved
loop-time-preserved c =
    let i = c.loop-time.invariant in
    record {
      are_lone = c.attempt_by.ensures.lone.0;
      given = c.attempt_by.ensures.lone.1 ∙ i.given;
      made = (
          let l = c.args.manager.now.limits in
          let more = once_more c.loop-time._time (attempt_steps l c.args.keeper.now.given) in
          let made = subst (λ z. AllMake (attempt_steps l z) c.loop-time.keeper c.loop-time.passes c.attempt_by.new.keeper c.attempt_by.new.passes) i.given c.attempt_by.ensures.steps in
          omega (arith, more, i.made, made));
      goes_on = i.goes_on
          ∙ (tried_at (length c.args.passes.now) (length c.loop-time.passes) c.args.kept.now c.args.id c.args.times c.loop-time._time c.loop-time.from (lone c.args.manager.now c.loop-time.keeper c.loop-time.passes) c.loop-time-test.true c.loop-time.auto.passes c.in-Some.at (c.in-Some.ensures.first c.loop-time.keeper.seen)
          ∙ ap (option_and_then (λ after. attempts_made (length c.args.passes.now) c.args.kept.now c.args.id (c.args.times - (c.loop-time._time + 1)) (c.in-Some.at, after))) c.in_ok-attempt_by.ensures.gives);
    }
