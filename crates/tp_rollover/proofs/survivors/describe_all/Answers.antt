use Rattle.std.proofs.Common.{arith, rules}
use Rattle.tp_rollover.specs.Bounds.{describe_steps}
use Rattle.tp_rollover.proofs.Checked.{described_end, described_then}
use Rattle.tp_rollover.proofs.Seen.{stays_trans}
use Rattle.tp_rollover.proofs.Steps.{once_more}
use Rattle.tp_rollover.proofs.Stopping.{err_as, stops_at}
use Rattle.tp_rollover.proofs.survivors.describe_all.Goals as goal

pub loop-place-preserved : goal.loop-place-preserved
loop-place-preserved c =
    let i = c.loop-place.invariant in
    record {
      own = c.describe.ensures.own;
      stays = stays_trans c.args.pass.now c.loop-place.pass c.describe.new.pass i.stays c.describe.ensures.stays;
      many = search rules;
      space = (let more = c.push.ensures.capacity in let so_far = i.space in omega (arith, more, so_far));
      told = described_then c.args.manager.now.limits c.args.ids.now c.loop-place.found.items c.push.new.self.items c.loop-place.place _ c.in_ok-one.one c.args.pass.now c.loop-place.pass c.describe.new.pass c.loop-place-test.true (search rules)
          i.stays c.describe.ensures.stays i.told c.in_ok-one.ensures.told;
      made = (let more = once_more c.loop-place.place (describe_steps c.args.manager.now.limits) in omega (arith, more, i.made, c.describe.ensures.steps));
    }

pub returns-clause-told : goal.returns-clause-told
returns-clause-told c same =
    described_end c.args.manager.now.limits c.args.pass.now.seen c.args.ids.now c.loop-place.found.items c.loop-place.place c.loop-place-test.false c.loop-place.auto.place-end (c.loop-place.invariant.told same)

pub returns-in_err-one-clause-stops : goal.returns-in_err-one-clause-stops
returns-in_err-one-clause-stops c =
    err_as c.from_residual.result c.in_err-one.field-0.0 _ c.from_residual.ensures.1
    (stops_at c.args.manager.now.limits c.args.ids.now c.loop-place.place _ c.args.pass.now c.loop-place.pass c.describe.new.pass c.in_err-one.field-0.0 c.loop-place-test.true c.loop-place.invariant.stays c.describe.ensures.stays c.in_err-one.ensures.stops)
