use Rattle.std.proofs.Common.{◌≡◌, ◌∙◌, arith, sym, map}
use Rattle.tp_script.specs.Script.{server_view}
use Rattle.tp_reference.specs.PlainRunning.{state}
use Rattle.tp_reference.proofs.ReportLemmas.{rounds_none, rounds_last, rounds_next}
use Rattle.tp_reference.proofs.plain_run.PlainRun.drain.Goals as goal

pub returns-then-not-branch-clause-gives : goal.returns-then-not-branch-clause-gives
returns-then-not-branch-clause-gives c =
    sym (rounds_last c.args.order (map server_view c.args.servers.now) c.loop-left.left (state c.loop-left.self) (state c.round.new.self) c.loop-left-test.true (rw c.if-not-branch.true at c.in_ok-round.ensures.gives)) ∙ c.loop-left.invariant.left

pub loop-left-preserved : goal.loop-left-preserved
loop-left-preserved c = record {
  left = sym (rounds_next c.args.order (map server_view c.args.servers.now) c.loop-left.left (state c.loop-left.self) (state c.round.new.self) c.loop-left-test.true (rw c.if-not-branch.false at c.in_ok-round.ensures.gives)) ∙ c.loop-left.invariant.left;
  ready = c.in_ok-round.ensures.ready;
}

pub returns-clause-gives : goal.returns-clause-gives
returns-clause-gives c =
    let done : c.loop-left.left ≡ 0 = omega (arith, c.loop-left-test.false) in
    sym (rounds_none c.args.order (map server_view c.args.servers.now) (state c.loop-left.self)) ∙ (rw done at c.loop-left.invariant.left)
