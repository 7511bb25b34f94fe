use Rattle.std.proofs.Common.{None, ◌<◌, arith}
use Rattle.std.proofs.lemmas.List.Elements.{All-more}
use Rattle.tp_model.specs.Steps.{rows_of}
use Rattle.tp_rollover.specs.declared.moved.Moved.{Moved}
use Rattle.tp_rollover.proofs.Lists.{all_taken}
use Rattle.tp_rollover.proofs.checking.are_within.Goals as goal

abbrev blank : Moved
blank = record { old = 0; new = 0; old_root = 0; new_root = 0; holder = None }

pub loop-place-preserved : goal.loop-place-preserved
loop-place-preserved c =
    let old = c.if-moved-place.false in
    let new = c.if-moved-place-2.false in
    All-more (λ (m : Moved). (m.old_root < rows_of c.args.old.now.limits) × (m.new_root < rows_of c.args.new.now.limits)) c.args.moved.now c.loop-place.place blank c.loop-place-test.true c.loop-place.invariant
    (omega (arith, old, c.capacity.ensures), omega (arith, new, c.capacity-in-loop-place.ensures))

pub returns-clause-within : goal.returns-clause-within
returns-clause-within c same = all_taken (λ (m : Moved). (m.old_root < rows_of c.args.old.now.limits) × (m.new_root < rows_of c.args.new.now.limits)) c.args.moved.now c.loop-place.place c.loop-place-test.false c.loop-place.invariant
