use Rattle.std.proofs.Common.{◌*◌, arith, subst}
use Rattle.tp_rollover.specs.Bounds.{AllMake, attempt_steps}
use Rattle.tp_rollover.proofs.Steps.{replayed, rounds_within}
use Rattle.tp_rollover.proofs.replays.replay.Goals as goal

pub returns-in_err-rounds-clause-steps : goal.returns-in_err-rounds-clause-steps
returns-in_err-rounds-clause-steps c =
    let within = c.requires.within in
    rounds_within c.args.manager.now.limits c.args.keeper.now.given c.args.one.rounds c.args.keeper.now c.rounds.new.keeper c.args.passes.now c.rounds.new.passes within.1 c.rounds.ensures.steps

pub returns-clause-steps : goal.returns-clause-steps
returns-clause-steps c =
    let within = c.requires.within in
    let few = within.0 in
    let times = c.attempts_of-times.ensures in
    let made = subst (λ z. AllMake (c.attempts_of-times.result * attempt_steps c.args.manager.now.limits z) c.rounds.new.keeper c.rounds.new.passes c.attempts.new.keeper c.attempts.new.passes) c.rounds.ensures.lone.1 c.attempts.ensures.steps in
    replayed c.args.manager.now.limits c.args.keeper.now.given c.args.one.rounds c.attempts_of-times.result c.args.keeper.now c.rounds.new.keeper c.attempts.new.keeper c.args.passes.now c.rounds.new.passes c.attempts.new.passes
    within.1 c.rounds.ensures.steps made (omega (arith, few, times))
