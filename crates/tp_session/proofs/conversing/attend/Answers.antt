use Rattle.std.proofs.Common.{◌∙◌, ap, arith, length, refl}
use Rattle.tp_report.proofs.Devices.{always_err}
use Rattle.tp_wire.proofs.SpendLemmas.{spends_none, spends_same, spends_then}
use Rattle.tp_wire.proofs.ToldLemmas.{told_so_far}
use Rattle.tp_session.proofs.AttendLemmas.{come_same, so_far_end, so_far_front, so_far_next, so_far_none}
use Rattle.tp_session.proofs.conversing.attend.Goals as goal

pub loop-number-init : goal.loop-number-init
loop-number-init g c = record {
  ready = c.requires.ready;
  asked = refl;
  room = omega arith;
  spends = spends_none c.args.lines.now (g.W.Wire.rest c.args.wire.now);
  told = so_far_none c.args.past _ _ c.args.session.now c.args.lines.now.answers.items;
}

pub loop-number-preserved : goal.loop-number-preserved
loop-number-preserved g c = record {
  ready = c.in_ok-next.ensures.ready;
  asked = rw c.in_ok-answer_line.ensures.left (c.in_ok-next.ensures.asked ∙ c.loop-number.invariant.asked);
  room = omega (arith, c.in_ok-next.ensures.room, c.loop-number.invariant.room, c.in_ok-answer_line.ensures.left, ap length c.in_ok-answer_line.ensures.unused);
  spends = spends_same 0 c.args.lines.now c.next.new.self c.answer_line.new.lines (g.W.Wire.rest c.args.wire.now) (g.W.Wire.rest c.next.new.wire)
      (spends_then 0 0 c.args.lines.now c.loop-number.lines c.next.new.self (g.W.Wire.rest c.args.wire.now) (g.W.Wire.rest c.loop-number.wire) (g.W.Wire.rest c.next.new.wire) (omega arith) c.loop-number.invariant.spends
      (rw c.if-not-branch.false at c.in_ok-next.ensures.spends)) c.in_ok-answer_line.ensures.left c.in_ok-answer_line.ensures.unused;
  told = so_far_next c.args.past c.loop-number.number _ _ _ _ _ _ _ _ _ _ c.next.new.self.line.items _ _ _ _ c.loop-number.invariant.told (rw c.if-not-branch.false at c.in_ok-next.ensures.next) c.in_ok-next.ensures.told
      (come_same c.next.new.self c.answer_line.new.lines (g.W.Wire.rest c.next.new.wire) c.in_ok-answer_line.ensures.unused) c.in_ok-answer_line.ensures.answered c.in_ok-answer_line.ensures.told;
}

pub returns-then-not-branch-clause-attends : goal.returns-then-not-branch-clause-attends
returns-then-not-branch-clause-attends g c =
    so_far_end c.args.past c.loop-number.number _ _ _ _ _ _ _ _ c.next.new.self.line.items _ _ _ c.loop-number.invariant.told (rw c.if-not-branch.true at c.in_ok-next.ensures.next) c.in_ok-next.ensures.told

pub returns-in_err-next-clause-front : goal.returns-in_err-next-clause-front
returns-in_err-next-clause-front g c =
    always_err c.from_residual.result (so_far_front c.args.past c.loop-number.number _ _ _ _ _ _ _ _ _ c.loop-number.invariant.told c.in_err-next.ensures.front)

pub returns-in_err-answer_line-clause-front : goal.returns-in_err-answer_line-clause-front
returns-in_err-answer_line-clause-front g c =
    always_err c.from_residual-in_err-answer_line.result (so_far_front c.args.past c.loop-number.number _ _ _ _ _ _ _ _ _ c.loop-number.invariant.told (told_so_far _ _ _ _ c.in_ok-next.ensures.told))
