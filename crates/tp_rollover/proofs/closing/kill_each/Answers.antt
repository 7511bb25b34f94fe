use Rattle.std.proofs.Common.{◌+◌, ◌∙◌, arith, get_or, subst, sym, take}
use Rattle.tp_rollover.specs.Closing.{KillsAllMoved}
use Rattle.tp_rollover.specs.declared.moved.Moved.{Moved}
use Rattle.tp_rollover.proofs.Calling.{at_place}
use Rattle.tp_rollover.proofs.KillRuns.{nothing, one_killed}
use Rattle.tp_rollover.proofs.Lists.{take_more}
use Rattle.tp_rollover.proofs.Running.{makes_more}
use Rattle.tp_rollover.proofs.closing.kill_each.Goals as goal

pub returns-in-Err-clause-stops : goal.returns-in-Err-clause-stops
returns-in-Err-clause-stops c none =
    let i = c.loop-place.place in
    record {
      done = take i c.args.moved.now;
      next = get_or c.args.moved.now i nothing;
      rest = _;
      moved_are = at_place c.args.moved.now i nothing (omega (arith, c.loop-place-test.true));
      middle = c.loop-place.pass;
      all = c.loop-place.invariant.ran;
      why = c.in-Err._refusal;
      refused = record { limits = c.kill.ensures.own.1; turn = c.kill.ensures.turn; follows = c.kill.ensures.follows; says = c.in-Err.ensures.answer };
    }

pub loop-place-preserved : goal.loop-place-preserved
loop-place-preserved c =
    let i = c.loop-place.place in
    let l = c.args.manager.now.limits in
    let one : Moved = get_or c.args.moved.now i nothing in
    let was = c.loop-place.invariant in
    record {
      own = (c.kill.ensures.own, c.kill.ensures.follows.number ∙ was.own.1);
      free = c.kill.ensures.open_unit;
      made = makes_more i (i + 1) _ c.args.pass.now c.loop-place.pass c.kill.new.pass (omega arith) was.made c.kill.ensures.follows;
      ran = subst (λ ms. KillsAllMoved l ms c.args.pass.now c.kill.new.pass) (sym (take_more c.args.moved.now i nothing (omega (arith, c.loop-place-test.true))))
          (one_killed l (take i c.args.moved.now) one c.in-Ok._killed c.args.pass.now c.loop-place.pass c.kill.new.pass was.ran
          (record { limits = c.kill.ensures.own.1; turn = c.kill.ensures.turn; follows = c.kill.ensures.follows; says = c.in-Ok.ensures.answer }));
    }
