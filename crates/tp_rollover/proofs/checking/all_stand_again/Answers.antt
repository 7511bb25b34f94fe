use Rattle.std.proofs.Common.{arith, length, refl}
use Rattle.tp_rollover.proofs.Checked.{stand_then}
use Rattle.tp_rollover.proofs.Differing.{differ_then}
use Rattle.tp_rollover.proofs.Lists.{zip_all, zip_as_many}
use Rattle.tp_rollover.proofs.Seen.{stays_trans}
use Rattle.tp_rollover.proofs.Steps.{next_of, no_more, once_more}
use Rattle.tp_rollover.specs.Bounds.{compare_steps}
use Rattle.tp_rollover.specs.Alike.{StandsUnheld}
use Rattle.tp_rollover.proofs.checking.all_stand_again.Goals as goal

pub loop-place-preserved : goal.loop-place-preserved
loop-place-preserved c =
    let i = c.loop-place.invariant in
    record {
      own = c.stands_again.ensures.own;
      stays = stays_trans c.args.pass.now c.loop-place.pass c.stands_again.new.pass i.stays c.stands_again.ensures.stays;
      told = stand_then c.args.manager.now.limits.attempts c.args.survivors.now c.args.moved.now c.loop-place.place _ _ c.args.pass.now c.loop-place.pass c.stands_again.new.pass c.loop-place-test.true (omega (arith, c.loop-place-test.true, c.if-moved-survivors.false))
          i.stays c.stands_again.ensures.stays i.told (c.if-not-stands_again.ensures.told refl);
      made = (let more = once_more c.loop-place.place (compare_steps c.args.manager.now.limits) in omega (arith, more, i.made, c.stands_again.ensures.steps));
    }

pub returns-then-not-stands_again-clause-steps : goal.returns-then-not-stands_again-clause-steps
returns-then-not-stands_again-clause-steps c =
    let i = c.loop-place.invariant in
    let a = next_of c.loop-place.place (length c.args.survivors.now) (compare_steps c.args.manager.now.limits) c.loop-place-test.true in
    omega (arith, a, i.made, c.stands_again.ensures.steps)

pub returns-clause-steps : goal.returns-clause-steps
returns-clause-steps c =
    let i = c.loop-place.invariant in
    let a = no_more c.loop-place.place (length c.args.survivors.now) (compare_steps c.args.manager.now.limits) c.loop-place.auto.place-end in
    omega (arith, a, i.made)

pub returns-clause-told : goal.returns-clause-told
returns-clause-told c told same =
    zip_all (StandsUnheld c.args.manager.now.limits.attempts c.args.pass.now.seen) c.args.survivors.now c.args.moved.now c.loop-place.place c.loop-place-test.false c.loop-place.auto.place-end (omega (arith, c.if-moved-survivors.false)) (c.loop-place.invariant.told same)

pub returns-then-moved-survivors-clause-other : goal.returns-then-moved-survivors-clause-other
returns-then-moved-survivors-clause-other c by same all =
    c.if-moved-survivors.true (zip_as_many (StandsUnheld c.args.manager.now.limits.attempts c.args.pass.now.seen) c.args.survivors.now c.args.moved.now all)

pub returns-then-not-stands_again-clause-other : goal.returns-then-not-stands_again-clause-other
returns-then-not-stands_again-clause-other c by =
    differ_then c.args.manager.now.limits.attempts c.args.survivors.now c.args.moved.now c.loop-place.place _ _ c.args.pass.now c.loop-place.pass c.stands_again.new.pass c.loop-place-test.true c.loop-place.invariant.stays c.stands_again.ensures.stays
    (c.if-not-stands_again.ensures.other refl)
