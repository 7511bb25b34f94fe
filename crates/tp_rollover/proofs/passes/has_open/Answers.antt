use Rattle.std.proofs.Common.{arith, rules, sym}
use Rattle.tp_rollover.proofs.Heads.{free_more, not_free}
use Rattle.tp_rollover.proofs.passes.has_open.Goals as goal

pub loop-place-preserved : goal.loop-place-preserved
loop-place-preserved c = free_more c.args.passes.now c.loop-place.place c.index-passes-place.result c.loop-place-test.true c.loop-place.invariant c.index-passes-place.is (search (rules, c.if-has_open.ensures))

pub returns-then-has_open-clause-busy : goal.returns-then-has_open-clause-busy
returns-then-has_open-clause-busy c same = not_free c.args.passes.now c.loop-place.place c.index-passes-place.result c.loop-place-test.true c.index-passes-place.is (sym c.if-has_open.ensures.answer)

pub returns-clause-free : goal.returns-clause-free
returns-clause-free c same k d less = c.loop-place.invariant k d (omega (arith, less, c.loop-place-test.false))
