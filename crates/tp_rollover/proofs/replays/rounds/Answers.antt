use Rattle.std.proofs.Common.{◌≡◌, ◌∙◌, ◌+◌, ◌-◌, ap, arith, length}
use Rattle.std.specs.Option.{option_and_then}
use Rattle.tp_model.specs.declared.types.Limits.{Limits}
use Rattle.tp_rollover.specs.Anew.{renewed}
use Rattle.tp_rollover.specs.Lone.{lone}
use Rattle.tp_rollover.proofs.Agreeing.{stops_first}
use Rattle.tp_rollover.proofs.ReplaysAll.{from_round, next_round, round_done}
use Rattle.tp_rollover.proofs.Steps.{round_within, tried_within}
use Rattle.tp_rollover.proofs.replays.rounds.Goals as goal

pub loop-round-preserved : goal.loop-round-preserved
loop-round-preserved c =
    let i = c.loop-round.invariant in
    let same : c.limits.result.attempts ≡ c.args.manager.now.limits.attempts = ap (λ (l : Limits). l.attempts) c.limits.ensures in
    record {
      are_lone = c.requeue_by.ensures.lone.0;
      given = c.requeue_by.ensures.lone.1 ∙ (c.attempts.ensures.lone.1 ∙ i.given);
      made = round_within c.args.manager.now.limits c.args.keeper.now.given c.loop-round._round (c.loop-round._round + 1) c.limits.result.attempts c.args.keeper.now c.loop-round.keeper c.attempts.new.keeper c.requeue_by.new.keeper c.args.passes.now c.loop-round.passes c.attempts.new.passes c.requeue_by.new.passes
          (omega arith) same i.given i.made c.attempts.ensures.steps c.attempts.ensures.lone.1 c.requeue_by.ensures.steps;
      goes_on = i.goes_on
          ∙ (round_done (length c.args.passes.now) (length c.loop-round.passes) c.args.kept.now c.args.id c.args.manager.now.limits.attempts c.limits.result.attempts c.args.times c.loop-round._round c.loop-round.from (lone c.args.manager.now c.loop-round.keeper c.loop-round.passes) c.loop-round-test.true c.loop-round.auto.passes same _ c.in_ok-attempts.ensures.gives
          ∙ ap (option_and_then (λ after. renewed (length c.args.passes.now) c.args.kept.now c.args.id c.args.manager.now.limits.attempts (c.args.times - (c.loop-round._round + 1)) (c.attempts.new.from, after))) c.in_ok-requeue_by.ensures.gives);
    }

pub returns-in_err-attempts-clause-steps : goal.returns-in_err-attempts-clause-steps
returns-in_err-attempts-clause-steps c =
    let i = c.loop-round.invariant in
    tried_within c.args.manager.now.limits c.args.keeper.now.given c.loop-round._round c.args.times c.limits.result.attempts c.args.keeper.now c.loop-round.keeper c.attempts.new.keeper c.attempts.new.keeper c.args.passes.now c.loop-round.passes c.attempts.new.passes c.attempts.new.passes
    c.loop-round-test.true (ap (λ (l : Limits). l.attempts) c.limits.ensures) i.given i.made c.attempts.ensures.steps

pub returns-in_err-requeue_by-clause-steps : goal.returns-in_err-requeue_by-clause-steps
returns-in_err-requeue_by-clause-steps c =
    let i = c.loop-round.invariant in
    round_within c.args.manager.now.limits c.args.keeper.now.given c.loop-round._round c.args.times c.limits.result.attempts c.args.keeper.now c.loop-round.keeper c.attempts.new.keeper c.requeue_by.new.keeper c.args.passes.now c.loop-round.passes c.attempts.new.passes c.requeue_by.new.passes
    c.loop-round-test.true (ap (λ (l : Limits). l.attempts) c.limits.ensures) i.given i.made c.attempts.ensures.steps c.attempts.ensures.lone.1 c.requeue_by.ensures.steps

pub returns-in_err-attempts-clause-gives : goal.returns-in_err-attempts-clause-gives
returns-in_err-attempts-clause-gives c =
    let same : c.limits.result.attempts ≡ c.args.manager.now.limits.attempts = ap (λ (l : Limits). l.attempts) c.limits.ensures in
    let p = length c.args.passes.now in
    let q = length c.loop-round.passes in
    let s = lone c.args.manager.now c.loop-round.keeper c.loop-round.passes in
    stops_first c.from_residual.result c.in_err-attempts.field-0.0 _ _ _ c.from_residual.ensures.1
    (from_round p q c.args.kept.now c.args.id c.args.manager.now.limits.attempts c.limits.result.attempts c.args.times c.loop-round._round c.loop-round.from s c.loop-round-test.true c.loop-round.auto.passes same) _
    (c.loop-round.invariant.goes_on ∙ next_round p q c.args.kept.now c.args.id c.args.manager.now.limits.attempts c.limits.result.attempts c.args.times c.loop-round._round c.loop-round.from s c.loop-round-test.true c.loop-round.auto.passes same)
    c.in_err-attempts.ensures.gives

pub returns-in_err-requeue_by-clause-gives : goal.returns-in_err-requeue_by-clause-gives
returns-in_err-requeue_by-clause-gives c =
    let same : c.limits.result.attempts ≡ c.args.manager.now.limits.attempts = ap (λ (l : Limits). l.attempts) c.limits.ensures in
    let p = length c.args.passes.now in
    let q = length c.loop-round.passes in
    let s = lone c.args.manager.now c.loop-round.keeper c.loop-round.passes in
    stops_first c.from_residual-in_err-requeue_by.result c.in_err-requeue_by.field-0.0 _ _ _ c.from_residual-in_err-requeue_by.ensures.1
    (λ after. renewed p c.args.kept.now c.args.id c.args.manager.now.limits.attempts (c.args.times - (c.loop-round._round + 1)) (c.attempts.new.from, after)) _
    (c.loop-round.invariant.goes_on ∙ round_done p q c.args.kept.now c.args.id c.args.manager.now.limits.attempts c.limits.result.attempts c.args.times c.loop-round._round c.loop-round.from s c.loop-round-test.true c.loop-round.auto.passes same _ c.in_ok-attempts.ensures.gives)
    c.in_err-requeue_by.ensures.gives
