use Rattle.std.proofs.Common.{◌∙◌, ◌+◌, ap, arith, drop, length, sym}
use Rattle.std.specs.Option.{option_and_then}
use Rattle.tp_rollover.specs.Anew.{all_held}
use Rattle.tp_rollover.specs.Lone.{lone}
use Rattle.tp_rollover.proofs.Holding.{holds_then, holds_within, next_held, same_held}
use Rattle.tp_rollover.proofs.holds.hold_all.Goals as goal

pub returns-in_err-hold_one-clause-steps : goal.returns-in_err-hold_one-clause-steps
returns-in_err-hold_one-clause-steps c =
    let i = c.loop-place.invariant in
    holds_within c.args.manager.now.limits c.args.keeper.now.given c.args.survivors.now (c.loop-place.place + 1) c.args.keeper.now c.hold_one.new.keeper c.args.passes.now c.hold_one.new.passes
    (holds_then c.args.manager.now.limits c.args.keeper.now.given c.args.survivors.now c.loop-place.place _ c.args.keeper.now c.loop-place.keeper c.hold_one.new.keeper c.args.passes.now c.loop-place.passes c.hold_one.new.passes c.loop-place-test.true i.given i.made c.hold_one.ensures.steps)

pub loop-place-preserved : goal.loop-place-preserved
loop-place-preserved c =
    let l = c.args.manager.now.limits in
    let i = c.loop-place.invariant in
    let p = length c.args.passes.now in
    record {
      are_lone = c.hold_one.ensures.lone.0;
      given = c.hold_one.ensures.lone.1 ∙ i.given;
      made = holds_then l c.args.keeper.now.given c.args.survivors.now c.loop-place.place _ c.args.keeper.now c.loop-place.keeper c.hold_one.new.keeper c.args.passes.now c.loop-place.passes c.hold_one.new.passes c.loop-place-test.true i.given i.made c.hold_one.ensures.steps;
      goes_on = i.goes_on
          ∙ (next_held p c.args.survivors.now c.args.moved.now c.loop-place.place _ _ (lone c.args.manager.now c.loop-place.keeper c.loop-place.passes) c.loop-place-test.true (omega (arith, c.requires.many, c.loop-place-test.true))
          ∙ ap (option_and_then (all_held p (drop (c.loop-place.place + 1) c.args.survivors.now) (drop (c.loop-place.place + 1) c.args.moved.now))) (same_held p (length c.loop-place.passes) _ _ _ (sym c.loop-place.auto.passes) ∙ c.in_ok-hold_one.ensures.gives));
    }
