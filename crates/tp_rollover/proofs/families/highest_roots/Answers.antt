use Rattle.std.proofs.Common.{◌≤◌, None, arith}
use Rattle.std.proofs.lemmas.List.Elements.{All-more, All-weaker}
use Rattle.tp_rollover.specs.declared.moved.Moved.{Moved}
use Rattle.tp_rollover.proofs.Lists.{all_taken}
use Rattle.tp_rollover.proofs.families.highest_roots.Goals as goal

abbrev blank : Moved
blank = record { old = 0; new = 0; old_root = 0; new_root = 0; holder = None }

pub loop-place-preserved : goal.loop-place-preserved
loop-place-preserved c = record {
  highest = All-more (λ (m : Moved). (m.old_root ≤ c.max-old_root.result) × (m.new_root ≤ c.max-new_root.result)) c.args.moved.now c.loop-place.place blank c.loop-place-test.true
      (All-weaker (λ (m : Moved). (m.old_root ≤ c.loop-place.old_root) × (m.new_root ≤ c.loop-place.new_root)) (λ (m : Moved). (m.old_root ≤ c.max-old_root.result) × (m.new_root ≤ c.max-new_root.result))
      (λ m low. let a = low.0 in let b = low.1 in (omega (arith, a, c.max-old_root.ensures), omega (arith, b, c.max-new_root.ensures))) _ c.loop-place.invariant.highest)
      (omega (arith, c.max-old_root.ensures), omega (arith, c.max-new_root.ensures));
  least = λ n n' some some' within.
      let was = c.loop-place.invariant.least n n' some some' within in
      let own = within c.loop-place.place blank c.loop-place-test.true in
      let a = was.0 in
      let b = was.1 in
      let e = own.0 in
      let f = own.1 in
      (omega (arith, a, e, c.max-old_root.ensures), omega (arith, b, f, c.max-new_root.ensures));
}

pub returns-clause-highest : goal.returns-clause-highest
returns-clause-highest c = all_taken (λ (m : Moved). (m.old_root ≤ c.loop-place.old_root) × (m.new_root ≤ c.loop-place.new_root)) c.args.moved.now c.loop-place.place c.loop-place-test.false c.loop-place.invariant.highest
