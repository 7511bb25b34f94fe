use Rattle.std.proofs.Common.{◌∙◌, ◌+◌, ap, arith, drop, length, subst}
use Rattle.std.specs.Option.{option_and_then}
use Rattle.tp_rollover.specs.Anew.{all_replayed}
use Rattle.tp_rollover.specs.Bounds.{AllMake, most_replay_steps}
use Rattle.tp_rollover.specs.Lone.{lone}
use Rattle.tp_rollover.proofs.ReplaysAll.{next_one}
use Rattle.tp_rollover.proofs.Replaying.{replays_then}
use Rattle.tp_rollover.proofs.Steps.{next_of, once_more}
use Rattle.tp_rollover.proofs.replays.replay_all.Goals as goal

pub loop-place-preserved : goal.loop-place-preserved
loop-place-preserved c =
    let l = c.args.manager.now.limits in
    let i = c.loop-place.invariant in
    let p = length c.args.passes.now in
    record {
      are_lone = c.replay.ensures.lone.0;
      given = c.replay.ensures.lone.1 ∙ i.given;
      made = (
          let more = once_more c.loop-place.place (most_replay_steps l c.args.keeper.now.given) in
          let made = subst (λ z. AllMake (most_replay_steps l z) c.loop-place.keeper c.loop-place.passes c.replay.new.keeper c.replay.new.passes) i.given c.replay.ensures.steps in
          omega (arith, more, i.made, made));
      told = replays_then l c.args.keeper.now.given c.args.survivors.now c.loop-place.place _ c.args.keeper.now c.loop-place.keeper c.replay.new.keeper c.args.passes.now c.loop-place.passes c.replay.new.passes c.loop-place-test.true i.given i.told c.in_ok-replay.ensures.told;
      goes_on = i.goes_on
          ∙ (next_one p (length c.loop-place.passes) c.kept_for-kept.result l.attempts c.args.survivors.now c.args.moved.now c.loop-place.place _ _ (c.loop-place.from, lone c.args.manager.now c.loop-place.keeper c.loop-place.passes) c.loop-place-test.true (omega (arith, c.requires.many, c.loop-place-test.true)) c.loop-place.auto.passes
          ∙ ap (option_and_then (all_replayed p c.kept_for-kept.result l.attempts (drop (c.loop-place.place + 1) c.args.survivors.now) (drop (c.loop-place.place + 1) c.args.moved.now))) c.in_ok-replay.ensures.gives);
    }

pub returns-in_err-replay-clause-steps : goal.returns-in_err-replay-clause-steps
returns-in_err-replay-clause-steps c =
    let l = c.args.manager.now.limits in
    let i = c.loop-place.invariant in
    let a = next_of c.loop-place.place (length c.args.survivors.now) (most_replay_steps l c.args.keeper.now.given) c.loop-place-test.true in
    let made = subst (λ z. AllMake (most_replay_steps l z) c.loop-place.keeper c.loop-place.passes c.replay.new.keeper c.replay.new.passes) i.given c.replay.ensures.steps in
    omega (arith, a, i.made, made)
