use Rattle.std.proofs.Common.{◌∙◌, ◌+◌, ◌-◌, arith, sym, ap}
use Rattle.tp_session.specs.Drains.{rounds}
use Rattle.tp_session.proofs.DrainLemmas.{rounds_end, rounds_more, rounds_none}
use Rattle.tp_session.proofs.drains.drain.Goals as goal

pub loop-past-init : goal.loop-past-init
loop-past-init c = ap (λ n. rounds c.args.order n c.args.servers.now c.args.store.now) (omega arith)

pub loop-past-preserved : goal.loop-past-preserved
loop-past-preserved c =
    c.loop-past.invariant
    ∙ rounds_more c.args.order c.loop-past.servers c.loop-past.store (c.args.most - c.loop-past.past) (c.args.most - (c.loop-past.past + 1)) c.round.new.servers c.round.new.store
    (omega (arith, c.loop-past-test.true)) (rw c.if-not-branch.false at c.in_ok-round.ensures)

pub returns-then-not-branch : goal.returns-then-not-branch
returns-then-not-branch c =
    sym (c.loop-past.invariant
    ∙ rounds_end c.args.order c.loop-past.servers c.loop-past.store (c.args.most - c.loop-past.past) (c.args.most - (c.loop-past.past + 1)) c.round.new.servers c.round.new.store
    (omega (arith, c.loop-past-test.true)) (rw c.if-not-branch.true at c.in_ok-round.ensures))

pub returns : goal.returns
returns c =
    sym (c.loop-past.invariant ∙ rounds_none c.args.order c.loop-past.servers c.loop-past.store (c.args.most - c.loop-past.past) (omega (arith, c.loop-past-test.false)))
