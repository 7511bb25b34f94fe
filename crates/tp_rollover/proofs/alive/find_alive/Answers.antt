use Rattle.std.proofs.Common.{◌+◌, arith, sym, subst}
use Rattle.tp_rollover.proofs.Founds.{FoundBelow, all_found, found_then, up_next}
use Rattle.tp_rollover.specs.Told.{HoldsAsSeen}
use Rattle.tp_manager.specs.Bounds.{read_steps}
use Rattle.tp_rollover.proofs.Seen.{stays_trans}
use Rattle.tp_rollover.proofs.Steps.{once_more, one_kept, searched}
use Rattle.tp_rollover.proofs.alive.find_alive.Goals as goal

pub loop-row-preserved : goal.loop-row-preserved
loop-row-preserved c =
    let i = c.loop-row.invariant in
    record {
      own = c.alive_at-one.ensures.own;
      stays = stays_trans c.args.pass.now c.loop-row.pass c.alive_at-one.new.pass i.stays c.alive_at-one.ensures.stays;
      told = subst (λ xs. HoldsAsSeen c.args.pass.now c.alive_at-one.new.pass (FoundBelow c.args.manager.now.limits.attempts (c.loop-row.row + 1) xs)) (sym c.in_ok-keep.ensures.kept)
          (found_then c.args.manager.now.limits.attempts c.loop-row.row c.loop-row.found.items c.alive_at-one.result c.args.pass.now c.loop-row.pass c.alive_at-one.new.pass c.alive_at-one.ensures.itself i.stays c.alive_at-one.ensures.stays i.told c.alive_at-one.ensures.told);
      up = up_next c.loop-row.row c.loop-row.found.items c.keep.new.found.items c.alive_at-one.result i.up c.alive_at-one.ensures.itself c.in_ok-keep.ensures.kept;
      few = one_kept c.loop-row.found.items c.keep.new.found.items c.alive_at-one.result c.args.count c.in_ok-keep.ensures.kept (let short = c.if-len-count.false in let len = c.len.ensures in omega (arith, short, len));
      below = one_kept c.loop-row.found.items c.keep.new.found.items c.alive_at-one.result (c.loop-row.row + 1) c.in_ok-keep.ensures.kept (let below = i.below in omega (arith, below));
      space = (let more = c.keep.ensures.space in let so_far = i.space in omega (arith, more, so_far));
      none = λ zero. (let short = c.if-len-count.false in absurd (omega (arith, short, zero)));
      made = (let more = once_more c.loop-row.row (read_steps c.args.manager.now.limits) in omega (arith, more, i.made, c.alive_at-one.ensures.steps));
    }

pub returns-then-len-count-clause-told : goal.returns-then-len-count-clause-told
returns-then-len-count-clause-told c same legal counted =
    let l = c.loop-row in
    let row_end = c.capacity-row-end.ensures in
    let within = c.loop-row-test.true in
    let enough = c.if-len-count.true in
    let len = c.len.ensures in
    let long = l.found.ok.0 in
    all_found c.args.manager.now.limits c.args.pass.now.seen c.args.count l.found.items legal counted l.row (omega (arith, row_end, within)) (l.invariant.told same) (omega (arith, enough, len, long))

pub returns-then-len-count-clause-steps : goal.returns-then-len-count-clause-steps
returns-then-len-count-clause-steps c =
    let i = c.loop-row.invariant in
    searched c.args.manager.now.limits c.args.count c.loop-row.row _ _ (let less = c.loop-row-test.true in let rows = c.capacity-row-end.ensures in omega (arith, less, rows)) i.none i.made

pub returns-in_err-keep-clause-steps : goal.returns-in_err-keep-clause-steps
returns-in_err-keep-clause-steps c =
    let i = c.loop-row.invariant in
    let more = once_more c.loop-row.row (read_steps c.args.manager.now.limits) in
    searched c.args.manager.now.limits c.args.count (c.loop-row.row + 1) _ _ (let less = c.loop-row-test.true in let rows = c.capacity-row-end.ensures in omega (arith, less, rows))
    (λ zero. (let short = c.if-len-count.false in absurd (omega (arith, short, zero)))) (omega (arith, more, i.made, c.alive_at-one.ensures.steps))

pub returns-clause-steps : goal.returns-clause-steps
returns-clause-steps c =
    let i = c.loop-row.invariant in
    searched c.args.manager.now.limits c.args.count c.loop-row.row _ _ (let less = c.loop-row.auto.row-end in let rows = c.capacity-row-end.ensures in omega (arith, less, rows)) i.none i.made

pub returns-then-len-count-clause-once : goal.returns-then-len-count-clause-once
returns-then-len-count-clause-once c = c.loop-row.invariant.up.once

pub returns-clause-once : goal.returns-clause-once
returns-clause-once c = c.loop-row.invariant.up.once

pub returns-then-len-count-clause-living : goal.returns-then-len-count-clause-living
returns-then-len-count-clause-living c same = (c.loop-row.invariant.told same).2

pub returns-clause-living : goal.returns-clause-living
returns-clause-living c same = (c.loop-row.invariant.told same).2
