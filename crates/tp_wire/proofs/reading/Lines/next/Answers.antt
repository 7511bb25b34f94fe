use Rattle.std.proofs.Common.{◌≡◌, ◌∙◌, ◌==◌, ap, arith, inr, length, not, refl, subst, vec_len}
use Rattle.tp_report.proofs.Devices.{always_err}
use Rattle.tp_wire.specs.Heard.{ReadsLine}
use Rattle.tp_wire.specs.Reading.{TakesLine, to_come}
use Rattle.tp_wire.proofs.HeardLemmas.{read_to_end, reads_on}
use Rattle.tp_wire.proofs.ReadingLemmas.{part_room, took_part, took_whole, whole_room}
use Rattle.tp_wire.proofs.SpendLemmas.{gave_last, gave_long, gave_more, last_spends, some_kept, whole_spends}
use Rattle.tp_wire.proofs.ToldLemmas.{told_front, told_then}
use Rattle.tp_wire.proofs.reading.Lines.next.Goals as goal

pub returns-in-Ok-true-clause-next : goal.returns-in-Ok-true-clause-next
returns-in-Ok-true-clause-next g c =
    took_whole _ (g.W.Wire.rest c.loop-read.wire) c.loop-read.self c.take_line.new.self c.loop-read.invariant.read (subst (λ e. TakesLine e c.loop-read.self c.take_line.new.self) c.in-Ok-true.field-0-test c.in-Ok-true.ensures.takes)

pub returns-in_err-read_more-clause-front : goal.returns-in_err-read_more-clause-front
returns-in_err-read_more-clause-front g c = always_err c.from_residual.result (told_front _ _ _ _ _ c.loop-read.invariant.told (rw c.take_line.ensures.same at c.in_err-read_more.ensures.front))

pub returns-then-not-branch-clause-told : goal.returns-then-not-branch-clause-told
returns-then-not-branch-clause-told g c = told_then _ _ _ _ _ _ c.loop-read.invariant.told (rw c.take_line.ensures.same at c.in_ok-read_more.ensures.told)

pub returns-then-not-branch-clause-next : goal.returns-then-not-branch-clause-next
returns-then-not-branch-clause-next g c =
    let before = took_part _ (g.W.Wire.rest c.loop-read.wire) c.loop-read.self c.take_line.new.self c.loop-read.invariant.read (subst (λ e. TakesLine e c.loop-read.self c.take_line.new.self) c.in-Ok-false.field-0-test c.in-Ok-false.ensures.takes) in
    let kept : ReadsLine (to_come c.args.self.now (g.W.Wire.rest c.args.wire.now)) (to_come c.read_more.new.self (g.W.Wire.rest c.read_more.new.wire)) c.read_more.new.self.line.items = rw c.in_ok-read_more.ensures.line (reads_on _ _ _ _ before c.in_ok-read_more.ensures.consumes) in
    let long : vec_len c.read_more.new.self.line ≡ length c.read_more.new.self.line.items = omega (arith, c.read_more.new.self.line.ok.0) in
    read_to_end _ _ _ _ kept (c.in_ok-read_more.ensures.end c.if-not-branch.true) (ap not (c.is_empty.ensures ∙ ap (λ n. n == 0) long))

pub loop-read-preserved : goal.loop-read-preserved
loop-read-preserved g c = record {
  ready = c.in_ok-read_more.ensures.ready;
  asked = rw c.take_line.ensures.left at (c.in_ok-read_more.ensures.asked) ∙ c.loop-read.invariant.asked;
  room = omega (arith, c.in_ok-read_more.ensures.room, part_room c.loop-read.self c.take_line.new.self c.take_line.ensures.left (subst (λ e. TakesLine e c.loop-read.self c.take_line.new.self) c.in-Ok-false.field-0-test c.in-Ok-false.ensures.takes), c.loop-read.invariant.room);
  left = omega (arith, c.in_ok-read_more.ensures.once, c.take_line.ensures.left, c.loop-read.invariant.left);
  read =
      let before = took_part _ (g.W.Wire.rest c.loop-read.wire) c.loop-read.self c.take_line.new.self c.loop-read.invariant.read (subst (λ e. TakesLine e c.loop-read.self c.take_line.new.self) c.in-Ok-false.field-0-test c.in-Ok-false.ensures.takes) in
      rw c.in_ok-read_more.ensures.line (reads_on _ _ _ _ before c.in_ok-read_more.ensures.consumes);
  gave =
      let took = subst (λ e. TakesLine e c.loop-read.self c.take_line.new.self) c.in-Ok-false.field-0-test c.in-Ok-false.ensures.takes in
      gave_more c.args.self.now c.loop-read.self c.take_line.new.self c.read_more.new.self (g.W.Wire.rest c.args.wire.now) (g.W.Wire.rest c.loop-read.wire) (g.W.Wire.rest c.read_more.new.wire)
      c.loop-read.invariant.gave c.take_line.ensures.left c.in_ok-read_more.ensures.once took.taken.1 c.in_ok-read_more.ensures.consumes (c.in_ok-read_more.ensures.some c.if-not-branch.false);
  told = told_then _ _ _ _ _ _ c.loop-read.invariant.told (rw c.take_line.ensures.same at c.in_ok-read_more.ensures.told);
}

pub returns-in-Ok-true-clause-room : goal.returns-in-Ok-true-clause-room
returns-in-Ok-true-clause-room g c =
    omega (arith, whole_room c.loop-read.self c.take_line.new.self c.take_line.ensures.left (subst (λ e. TakesLine e c.loop-read.self c.take_line.new.self) c.in-Ok-true.field-0-test c.in-Ok-true.ensures.takes), c.loop-read.invariant.room)

pub returns-then-not-branch-clause-room : goal.returns-then-not-branch-clause-room
returns-then-not-branch-clause-room g c =
    omega (arith, c.in_ok-read_more.ensures.room, part_room c.loop-read.self c.take_line.new.self c.take_line.ensures.left (subst (λ e. TakesLine e c.loop-read.self c.take_line.new.self) c.in-Ok-false.field-0-test c.in-Ok-false.ensures.takes), c.loop-read.invariant.room)

pub returns-clause-read : goal.returns-clause-read
returns-clause-read g c _ = inr (omega (arith, c.loop-read.invariant.left, c.loop-read.invariant.asked, c.loop-read-test.false))

pub returns-in-Ok-true-clause-spends : goal.returns-in-Ok-true-clause-spends
returns-in-Ok-true-clause-spends g c =
    whole_spends c.args.self.now c.loop-read.self c.take_line.new.self (g.W.Wire.rest c.args.wire.now) (g.W.Wire.rest c.loop-read.wire) _ c.loop-read.invariant.gave c.take_line.ensures.left c.loop-read.invariant.read
    (subst (λ e. TakesLine e c.loop-read.self c.take_line.new.self) c.in-Ok-true.field-0-test c.in-Ok-true.ensures.takes)

pub returns-clause-long : goal.returns-clause-long
returns-clause-long g c _ =
    inr (gave_long c.args.self.now c.loop-read.self (g.W.Wire.rest c.args.wire.now) (g.W.Wire.rest c.loop-read.wire) c.loop-read.invariant.gave (omega (arith, c.loop-read.invariant.left, c.loop-read-test.false)))

pub returns-then-not-branch-clause-spends : goal.returns-then-not-branch-clause-spends
returns-then-not-branch-clause-spends g c =
    let took = subst (λ e. TakesLine e c.loop-read.self c.take_line.new.self) c.in-Ok-false.field-0-test c.in-Ok-false.ensures.takes in
    let before = took_part _ (g.W.Wire.rest c.loop-read.wire) c.loop-read.self c.take_line.new.self c.loop-read.invariant.read took in
    let kept : ReadsLine (to_come c.args.self.now (g.W.Wire.rest c.args.wire.now)) (to_come c.read_more.new.self (g.W.Wire.rest c.read_more.new.wire)) c.read_more.new.self.line.items = rw c.in_ok-read_more.ensures.line (reads_on _ _ _ _ before c.in_ok-read_more.ensures.consumes) in
    let long : vec_len c.read_more.new.self.line ≡ length c.read_more.new.self.line.items = omega (arith, c.read_more.new.self.line.ok.0) in
    last_spends c.args.self.now c.read_more.new.self (g.W.Wire.rest c.args.wire.now) (g.W.Wire.rest c.read_more.new.wire) _ _
    (gave_last c.args.self.now c.loop-read.self c.take_line.new.self c.read_more.new.self (g.W.Wire.rest c.args.wire.now) (g.W.Wire.rest c.loop-read.wire) (g.W.Wire.rest c.read_more.new.wire)
    c.loop-read.invariant.gave c.take_line.ensures.left c.in_ok-read_more.ensures.once took.taken.1 c.in_ok-read_more.ensures.consumes)
    kept (some_kept (length c.read_more.new.self.line.items) _ _ (ap not (c.is_empty.ensures ∙ ap (λ n. n == 0) long)) refl)
