use Rattle.tp_rollover.proofs.Calling.{may_gather}
use Rattle.tp_rollover.proofs.Running.{lone_behind, run_computed, run_made}
use Rattle.tp_rollover.proofs.calls.submit_run.Goals as goal

pub gather-requires-clause-all : goal.gather-requires-clause-all
gather-requires-clause-all c = may_gather c.args.keeper.now c.args.passes.now c.args.at c.index-passes-at.result c.submit_each-result.new.pass c.requires.at c.submit_each-result.ensures.own.1 c.requires.lone.together.all

pub returns-clause-lone : goal.returns-clause-lone
returns-clause-lone c = lone_behind c.args.manager.now c.args.keeper.now c.gather.new.self c.args.passes.now c.gather.new.passes c.args.at c.index-passes-at.result c.submit_each-result.new.pass _ c.requires.lone c.requires.at c.submit_each-result.ensures.own c.gather.ensures.gathers c.gather.ensures.keeper c.gather.ensures.own c.gather.ensures.all

pub returns-clause-steps : goal.returns-clause-steps
returns-clause-steps c = run_made c.args.manager.now c.args.keeper.now c.gather.new.self c.args.passes.now c.gather.new.passes c.args.at c.index-passes-at.result c.submit_each-result.new.pass _ c.requires.lone c.requires.at c.submit_each-result.ensures.own c.gather.ensures.gathers c.gather.ensures.keeper c.gather.ensures.own c.gather.ensures.all _ c.submit_each-result.ensures.steps c.gather.ensures.steps

pub returns-clause-gives : goal.returns-clause-gives
returns-clause-gives c = run_computed c.args.manager.now c.args.keeper.now c.gather.new.self c.args.passes.now c.gather.new.passes c.args.at c.index-passes-at.result c.submit_each-result.new.pass _ c.requires.lone c.requires.at c.submit_each-result.ensures.own c.gather.ensures.gathers c.gather.ensures.keeper c.gather.ensures.own c.gather.ensures.all c.args.roots.now c.args.moved.now.items _ c.submit_each-result.result c.submit_each-result.ensures.runs
