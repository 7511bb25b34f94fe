use Rattle.std.proofs.Common.{◌+◌, arith, ap, ◌∙◌}
use Rattle.tp_workers.specs.Desks.{HadWork, TakesTurn}
use Rattle.tp_workers.specs.Tally.{total, turn_count}
use Rattle.tp_workers.proofs.Calling.{but_last}
use Rattle.tp_workers.proofs.Asking.{asks_nothing, desk_asks_more}
use Rattle.tp_workers.proofs.Turns.{all_had_work, none_so_far, one_last, one_more, one_turn, turns_total}
use Rattle.tp_workers.proofs.alone.turns_until_idle.Goals as goal

pub loop-i-init : goal.loop-i-init
loop-i-init g c = record {
  asked = rw c.none-counts.ensures (asks_nothing _ _ _ _ c.args.desk.now.manager.now c.args.plan.order _);
  so_far = rw c.none-counts.ensures (none_so_far _ _ _ c.args.plan.order c.args.desk.now c.requires.resting);
  none_idle = ap (λ s. s.idle) c.none-counts.ensures;
  none_left_out = ap (λ s. s.nounit) c.none-counts.ensures;
}

pub plus-counts-requires : goal.plus-counts-requires
plus-counts-requires g c =
    let before = turns_total c.args.plan.order _ c.loop-i._i _ _ _ c.loop-i.invariant.so_far.calls in
    let now = ap total c.of_turn.ensures ∙ one_turn c.turn_at-turned.result in
    omega arith

pub loop-i-preserved : goal.loop-i-preserved
loop-i-preserved g c = record {
  asked = desk_asks_more (λ v. (goal.Server-dyn g v).behaviour v.1) (λ v. (goal.Server-dyn g v).registers v.1) (λ v. (goal.Server-dyn g v).pending v.1) (λ v. (goal.Server-dyn g v).asked v.1) c.args.plan.order c.turn_at-turned.result c.args.desk.now c.loop-i.desk c.turn_at-turned.new.desk _ _ _ c.loop-i.invariant.so_far.same c.loop-i.invariant.asked c.turn_at-turned.ensures.turn c.turn_at-turned.ensures.asked c.of_turn.ensures c.plus-counts.ensures;
  so_far = one_more _ _ _ c.args.plan.order c.loop-i._i c.turn_at-turned.result _ _ _ _ _ _ c.loop-i.invariant.so_far c.turn_at-turned.ensures.same c.turn_at-turned.ensures.turn c.turn_at-turned.ensures.resting c.of_turn.ensures c.plus-counts.ensures;
  none_idle = omega arith;
  none_left_out = omega arith;
}

pub returns-then-counts-gt0-clause-turns : goal.returns-then-counts-gt0-clause-turns
returns-then-counts-gt0-clause-turns g c =
    let now = one_last _ _ _ HadWork c.args.plan.order c.loop-i._i c.turn_at-turned.result _ _ c.turn_at-turned.new.desk _ _ _ c.loop-i.invariant.so_far
    (all_had_work _ _ _ c.args.plan.order c.loop-i._i _ _ _ c.loop-i.invariant.so_far (omega (arith, c.loop-i.invariant.none_idle, c.loop-i.invariant.none_left_out)))
    c.turn_at-turned.ensures.turn c.of_turn.ensures c.plus-counts.ensures in
    record {
      taken = c.loop-i._i + 1;
      calls = now.0;
      stops = now.1;
      at_most = omega arith;
      all_taken = λ e. absurd (omega (arith, e));
    }

pub returns-then-counts-gt0-2-clause-turns : goal.returns-then-counts-gt0-2-clause-turns
returns-then-counts-gt0-2-clause-turns g c =
    let now = one_last _ _ _ HadWork c.args.plan.order c.loop-i._i c.turn_at-turned.result _ _ c.turn_at-turned.new.desk _ _ _ c.loop-i.invariant.so_far
    (all_had_work _ _ _ c.args.plan.order c.loop-i._i _ _ _ c.loop-i.invariant.so_far (omega (arith, c.loop-i.invariant.none_idle, c.loop-i.invariant.none_left_out)))
    c.turn_at-turned.ensures.turn c.of_turn.ensures c.plus-counts.ensures in
    record {
      taken = c.loop-i._i + 1;
      calls = now.0;
      stops = now.1;
      at_most = omega arith;
      all_taken = λ e. absurd (omega (arith, e));
    }

pub returns-then-counts-gt0-clause-asked : goal.returns-then-counts-gt0-clause-asked
returns-then-counts-gt0-clause-asked g c = desk_asks_more (λ v. (goal.Server-dyn g v).behaviour v.1) (λ v. (goal.Server-dyn g v).registers v.1) (λ v. (goal.Server-dyn g v).pending v.1) (λ v. (goal.Server-dyn g v).asked v.1) c.args.plan.order c.turn_at-turned.result c.args.desk.now c.loop-i.desk c.turn_at-turned.new.desk _ _ _ c.loop-i.invariant.so_far.same c.loop-i.invariant.asked c.turn_at-turned.ensures.turn c.turn_at-turned.ensures.asked c.of_turn.ensures c.plus-counts.ensures

pub returns-then-counts-gt0-2-clause-asked : goal.returns-then-counts-gt0-2-clause-asked
returns-then-counts-gt0-2-clause-asked g c = desk_asks_more (λ v. (goal.Server-dyn g v).behaviour v.1) (λ v. (goal.Server-dyn g v).registers v.1) (λ v. (goal.Server-dyn g v).pending v.1) (λ v. (goal.Server-dyn g v).asked v.1) c.args.plan.order c.turn_at-turned.result c.args.desk.now c.loop-i.desk c.turn_at-turned.new.desk _ _ _ c.loop-i.invariant.so_far.same c.loop-i.invariant.asked c.turn_at-turned.ensures.turn c.turn_at-turned.ensures.asked c.of_turn.ensures c.plus-counts.ensures

pub returns-clause-turns : goal.returns-clause-turns
returns-clause-turns g c = record {
  taken = c.loop-i._i;
  calls = c.loop-i.invariant.so_far.calls;
  stops = but_last (TakesTurn c.args.plan.order c.args.desk.now.manager.now.limits) turn_count HadWork _ (all_had_work _ _ _ c.args.plan.order c.loop-i._i _ _ _ c.loop-i.invariant.so_far (omega (arith, c.loop-i.invariant.none_idle, c.loop-i.invariant.none_left_out)));
  at_most = omega arith;
  all_taken = λ e. omega arith;
}
