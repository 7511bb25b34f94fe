use Rattle.std.proofs.Common.{None, ◌+◌, drop, arith, subst, sym}
use Rattle.tp_rollover.proofs.Checked.{ascend_on}
use Rattle.tp_rollover.proofs.Differing.{ascend_back}
use Rattle.tp_rollover.specs.Checks.{AscendFrom}
use Rattle.tp_rollover.specs.declared.moved.Moved.{Moved}
use Rattle.tp_rollover.proofs.checking.ascend.Goals as goal

abbrev blank : Moved
blank = record { old = 0; new = 0; old_root = 0; new_root = 0; holder = None }

pub loop-place-preserved : goal.loop-place-preserved
loop-place-preserved c = record {
  all = λ a b. c.loop-place.invariant.all
      (ascend_on (λ m. m.old) c.loop-place.old (c.from-next_old.result + 1) c.args.moved.now c.loop-place.place blank c.loop-place-test.true (omega (arith, c.if-next_old-old.false, c.from-next_old.ensures)) (omega (arith, c.from-next_old.ensures)) a)
      (ascend_on (λ m. m.new) c.loop-place.new (c.from-next_new.result + 1) c.args.moved.now c.loop-place.place blank c.loop-place-test.true (omega (arith, c.if-next_new-new.false, c.from-next_new.ensures)) (omega (arith, c.from-next_new.ensures)) b);
  left = λ up. (
    subst (λ n. AscendFrom (λ m. m.old) (n + 1) (drop (c.loop-place.place + 1) c.args.moved.now)) (sym c.from-next_old.ensures) (ascend_back (λ m. m.old) c.loop-place.old c.args.moved.now c.loop-place.place blank c.loop-place-test.true (c.loop-place.invariant.left up).0).1,
    subst (λ n. AscendFrom (λ m. m.new) (n + 1) (drop (c.loop-place.place + 1) c.args.moved.now)) (sym c.from-next_new.ensures) (ascend_back (λ m. m.new) c.loop-place.new c.args.moved.now c.loop-place.place blank c.loop-place-test.true (c.loop-place.invariant.left up).1).1,
  );
}

pub overflow_add-new : goal.overflow_add-new
overflow_add-new c = omega (arith, c.if-next_old-old.element_fits.fits, c.from-next_new.ensures)
