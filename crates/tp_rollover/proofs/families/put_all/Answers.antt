use Rattle.std.proofs.Common.{◌∙◌, None, refl}
use Rattle.tp_rollover.proofs.Checked.{families_end, tables_none, tables_then}
use Rattle.tp_rollover.proofs.Differing.{from_none, from_then, other_new, other_old}
use Rattle.tp_rollover.specs.declared.moved.Moved.{Moved}
use Rattle.tp_rollover.proofs.families.put_all.Goals as goal

abbrev none : Moved
none = record { old = 0; new = 0; old_root = 0; new_root = 0; holder = None }

pub loop-place-init : goal.loop-place-init
loop-place-init c = record {
  tables = tables_none c.args.new_roots.now c.args.old_roots.now c.args.moved.now;
  from = from_none c.args.new_roots.now c.args.old_roots.now c.args.moved.now c.requires.none.0 c.requires.none.1;
  long = (refl, refl);
}

pub loop-place-preserved : goal.loop-place-preserved
loop-place-preserved c =
    let i = c.loop-place.invariant in
    let put = c.if-not-takes.ensures.put refl in
    let put' = c.if-not-takes-2.ensures.put refl in
    record {
      tables = tables_then c.loop-place.new_roots c.takes.new.places c.loop-place.old_roots c.takes-in-loop-place.new.places c.args.moved.now c.loop-place.place none c.loop-place-test.true i.tables put put';
      from = from_then c.args.moved.now c.loop-place.place none c.loop-place-test.true c.loop-place.new_roots c.takes.new.places c.loop-place.old_roots c.takes-in-loop-place.new.places i.from put put';
      long = (c.takes.ensures.long ∙ i.long.0, c.takes-in-loop-place.ensures.long ∙ i.long.1);
    }

pub returns-clause-families : goal.returns-clause-families
returns-clause-families c same = families_end c.loop-place.new_roots c.loop-place.old_roots c.args.moved.now c.loop-place.place c.loop-place-test.false c.loop-place.auto.place-end c.loop-place.invariant.tables

pub returns-then-not-takes-clause-other : goal.returns-then-not-takes-clause-other
returns-then-not-takes-clause-other c same = other_new c.args.moved.now c.loop-place.place none c.loop-place-test.true c.loop-place.new_roots c.loop-place.old_roots c.loop-place.invariant.from (c.if-not-takes.ensures.other refl)

pub returns-then-not-takes-2-clause-other : goal.returns-then-not-takes-2-clause-other
returns-then-not-takes-2-clause-other c same = other_old c.args.moved.now c.loop-place.place none c.loop-place-test.true c.loop-place.new_roots c.loop-place.old_roots c.loop-place.invariant.from (c.if-not-takes-2.ensures.other refl)
