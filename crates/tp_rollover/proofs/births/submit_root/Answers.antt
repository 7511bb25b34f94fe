use Rattle.tp_rollover.specs.Anew.{submitted}
use Rattle.tp_rollover.specs.Lone.{lone}
use Rattle.tp_rollover.proofs.Agreeing.{by_next, stopped_by}
use Rattle.tp_rollover.proofs.births.submit_root.Goals as goal

pub returns-in_err-at-clause-gives : goal.returns-in_err-at-clause-gives
returns-in_err-at-clause-gives c = stopped_by c.from_residual.result c.in_err-at.field-0.0 (λ at. (at, c.next.new.self)) _ _ _ c.from_residual.ensures.1 (c.in_err-at.ensures.gives c.args.keeper.now.seen)

pub returns-clause-gives : goal.returns-clause-gives
returns-clause-gives c =
    by_next c.submit_by.result (λ n. submitted n c.args.one.root_stage c.args.one.root_body) (lone c.args.manager.now c.args.keeper.now c.args.passes.now)
    (lone c.args.manager.now c.submit_by.new.keeper c.submit_by.new.passes) _ c.in_ok-at.at c.next.new.self (c.in_ok-at.ensures.gives c.args.keeper.now.seen) c.submit_by.ensures.gives
