use Rattle.std.proofs.Common.{◌==◌, ◌≤◌, Bool, true, false, if◌then◌else◌, sym, ◌∙◌, arith}
use Rattle.tp_store.specs.declared.element.TheConstants.{REPLY_STAGE}
use Rattle.tp_store.proofs.Striking.{below_end, found_from, nothing_open, strike_step}
use Rattle.tp_store.proofs.cancels.kill_open.Goals as goal

few : (b : Bool) → (if b then 0 else 1) ≤ 1
few true = omega arith
few false = omega arith

pub loop-id-preserved : goal.loop-id-preserved
loop-id-preserved c =
    let found = sym c.first_alive.ensures.first ∙ c.in-Some.is in
    let step = strike_step c.args.root c.loop-id.from c.in-Some.id c.in-Some.element c.loop-id.shelf c.strike-killed.new.shelf c.loop-id.tally c.strike-killed.new.tally c.first_alive.ensures.sorted found c.strike-killed.ensures.kills in
    let low = found_from c.args.root c.loop-id.from c.in-Some.id c.in-Some.element c.loop-id.shelf found in
    let high = below_end c.in-Some.id c.args.end c.in-Some.element c.loop-id.shelf c.in-Some.ensures.there c.loop-id.invariant.below in
    let one = few (c.in-Some.element.stage == REPLY_STAGE) in
    record {
      kills = step.0 ∙ c.loop-id.invariant.kills;
      count = (let more = rw (← c.strike-killed.ensures.count) at step.1 in omega (arith, c.loop-id.invariant.count));
      below = λ i h. c.strike-killed.ensures.fewer i (c.loop-id.invariant.below i h);
      few = omega (arith, c.strike-killed.ensures.count, c.loop-id.invariant.few);
      within = omega arith;
    }

pub loop-id-smaller : goal.loop-id-smaller
loop-id-smaller c =
    let found = sym c.first_alive.ensures.first ∙ c.in-Some.is in
    let low = found_from c.args.root c.loop-id.from c.in-Some.id c.in-Some.element c.loop-id.shelf found in
    let high = below_end c.in-Some.id c.args.end c.in-Some.element c.loop-id.shelf c.in-Some.ensures.there c.loop-id.invariant.below in
    omega arith

pub overflow_add-killed : goal.overflow_add-killed
overflow_add-killed c =
    let found = sym c.first_alive.ensures.first ∙ c.in-Some.is in
    let low = found_from c.args.root c.loop-id.from c.in-Some.id c.in-Some.element c.loop-id.shelf found in
    let high = below_end c.in-Some.id c.args.end c.in-Some.element c.loop-id.shelf c.in-Some.ensures.there c.loop-id.invariant.below in
    let one = few (c.in-Some.element.stage == REPLY_STAGE) in
    omega (arith, c.strike-killed.ensures.count, c.loop-id.invariant.few, c.ranges.end.fits)

pub returns-clause-kills : goal.returns-clause-kills
returns-clause-kills c = rw (nothing_open c.args.root c.loop-id.from c.loop-id.shelf (sym c.first_alive.ensures.first ∙ c.in_default.is)) at c.loop-id.invariant.kills

pub returns-clause-count : goal.returns-clause-count
returns-clause-count c = let all = rw (nothing_open c.args.root c.loop-id.from c.loop-id.shelf (sym c.first_alive.ensures.first ∙ c.in_default.is)) at c.loop-id.invariant.count in omega arith
