use Rattle.std.proofs.Common.{rules, ◌+◌, ◌-◌, refl, arith, subst}
use Rattle.tp_model.specs.declared.types.Limits.{Limits}
use Rattle.tp_rule.specs.Tables.{table_limits}
use Rattle.tp_rule.specs.Views.{view_of}
use Rattle.tp_manager.specs.Marks.{Rose}
use Rattle.tp_manager.proofs.Calls.CallSteps.{looked, looked_few, looked_none, looked_then}
use Rattle.tp_manager.proofs.Marks.Raises.{goes_walked, rose_then}
use Rattle.tp_manager.proofs.Marks.Useless.{rose_later}
use Rattle.tp_manager.proofs.manager.Shared.leap_ahead.Goals as goal
use Rattle.tp_manager.proofs.manager.Shared.leap_ahead.Goals.{After-loop-look, After-tells_of_tail}

pub loop-look-init : goal.loop-look-init
loop-look-init c = let r = c.requires.rows in record {
  same = refl;
  row = (omega arith, omega arith);
  rose = c.requires.known;
  spent = omega arith;
  few = looked_few (table_limits c.args.self.now.words) 0 (c.args.first + 1 - c.args.first - 1) _ _ (omega arith) (looked_none (table_limits c.args.self.now.words) (view_of c.args.seat.now) c.requires.steady.steady);
}

pub tells_of_tail-requires-clause-steady : goal.tells_of_tail-requires-clause-steady
tells_of_tail-requires-clause-steady c = let w = c.loop-look.invariant.few.walk in record { own = search rules; steady = w.steady }

pub loop-look-preserved-then-tells_of_tail : goal.loop-look-preserved-then-tells_of_tail
loop-look-preserved-then-tells_of_tail c = let l : Limits = table_limits c.args.self.now.words in let i = c.loop-look.invariant in let a = c.tells_of_tail.ensures.acted in let at = c.last_of-at.ensures in let top = c.requires.rows in
    let row = i.row in let spent = i.spent in let first = row.0 in let end = row.1 in let low = at.0 in let high = at.1 in record {
      same = search rules;
      row = (omega arith, omega arith);
      rose = rose_then l c.args.stage (view_of c.loop-look.seat) (view_of c.tells_of_tail.new.seat) c.args.first c.loop-look.row _ (goes_walked l 1 _ _ _ i.few.walk.steady.pass.1 a.walk) i.rose (subst (Rose c.args.stage (view_of c.tells_of_tail.new.seat) c.loop-look.row) (omega arith) (c.tells_of_tail.ensures.aside c.if-tells_of_tail.true));
      spent = omega arith;
      few = looked_few l (c.loop-look.row - c.args.first - c.loop-look.spare + 1) _ _ _ (omega arith) (looked_then l _ 1 _ _ _ i.few (looked l 1 _ _ a));
    }

pub loop-look-preserved : goal.loop-look-preserved
loop-look-preserved c = let l : Limits = table_limits c.args.self.now.words in let i = c.loop-look.invariant in let a = c.tells_of_tail.ensures.acted in let spent = i.spent in let first = i.row.0 in let some = c.if-spare-eq0.false in record {
  same = search rules;
  row = i.row;
  rose = rose_later l c.args.stage (view_of c.loop-look.seat) (view_of c.tells_of_tail.new.seat) c.args.first c.loop-look.row (goes_walked l 1 _ _ _ i.few.walk.steady.pass.1 a.walk) i.rose;
  spent = omega arith;
  few = looked_few l (c.loop-look.row - c.args.first - c.loop-look.spare + 1) _ _ _ (omega arith) (looked_then l _ 1 _ _ _ i.few (looked l 1 _ _ a));
}
