use Rattle.std.proofs.Common.{arith}
use Rattle.tp_rollover.proofs.KillRuns.{all_buried, none_refused}
use Rattle.tp_rollover.proofs.Running.{lone_behind, run_made}
use Rattle.tp_rollover.proofs.closing.kill_all.Goals as goal

pub unreachable-requires : goal.unreachable-requires
unreachable-requires c = none_refused c.args.manager.now c.args.keeper.now c.gather.new.self c.args.passes.now c.gather.new.passes 0 c.index-passes-0.result c.kill_each-done.new.pass _ c.requires.lone (omega (arith, c.requires.some)) c.kill_each-done.ensures.own c.gather.ensures.gathers c.gather.ensures.keeper c.gather.ensures.own c.gather.ensures.all c.args.moved.now c.requires.living (c.kill_each-done.ensures.stops c.if-not-done.true)

pub returns-clause-lone : goal.returns-clause-lone
returns-clause-lone c = lone_behind c.args.manager.now c.args.keeper.now c.gather.new.self c.args.passes.now c.gather.new.passes 0 c.index-passes-0.result c.kill_each-done.new.pass _ c.requires.lone (omega (arith, c.requires.some)) c.kill_each-done.ensures.own c.gather.ensures.gathers c.gather.ensures.keeper c.gather.ensures.own c.gather.ensures.all

pub returns-clause-steps : goal.returns-clause-steps
returns-clause-steps c = run_made c.args.manager.now c.args.keeper.now c.gather.new.self c.args.passes.now c.gather.new.passes 0 c.index-passes-0.result c.kill_each-done.new.pass _ c.requires.lone (omega (arith, c.requires.some)) c.kill_each-done.ensures.own c.gather.ensures.gathers c.gather.ensures.keeper c.gather.ensures.own c.gather.ensures.all _ c.kill_each-done.ensures.steps c.gather.ensures.steps

pub returns-clause-killed : goal.returns-clause-killed
returns-clause-killed c = all_buried c.args.manager.now c.args.keeper.now c.gather.new.self c.args.passes.now c.gather.new.passes 0 c.index-passes-0.result c.kill_each-done.new.pass _ c.requires.lone (omega (arith, c.requires.some)) c.kill_each-done.ensures.own c.gather.ensures.gathers c.gather.ensures.keeper c.gather.ensures.own c.gather.ensures.all c.args.moved.now c.requires.living (c.kill_each-done.ensures.done c.if-not-done.false)
