use Rattle.std.proofs.Common.{length, arith}
use Rattle.tp_rollover.specs.Lone.{bearing, lone}
use Rattle.tp_rollover.proofs.BirthsRuns.{group_bears, group_short, run_bears, run_many, run_takes, turn_made}
use Rattle.tp_rollover.proofs.births.bear_turn.Goals as goal

pub returns-then-count-gt0-clause-steps : goal.returns-then-count-gt0-clause-steps
returns-then-count-gt0-clause-steps c =
    let l = c.args.manager.now.limits in
    let q = c.args.keeper.now.given in
    let n = c.run_of-count.result in
    let after = c.submit_run.new in
    let within = c.run_of-count.ensures.inside in
    turn_made l q c.args.keeper.now after.keeper c.args.passes.now after.passes c.args.unborn.now.rest.now c.args.moved.now.items after.moved.items n within c.submit_run.result
    (run_many c.args.cursor.now.at n c.args.unborn.now.rest.now c.args.moved.now.items after.moved.items (lone c.args.manager.now c.args.keeper.now c.args.passes.now) (lone c.args.manager.now after.keeper after.passes) c.submit_run.result within c.submit_run.ensures.gives)
    (run_takes l q c.args.keeper.now after.keeper c.args.passes.now after.passes c.args.unborn.now.rest.now c.args.moved.now.items after.moved.items n within (omega arith) c.submit_run.ensures.steps)

pub returns-then-count-gt0-clause-on : goal.returns-then-count-gt0-clause-on
returns-then-count-gt0-clause-on c =
    let n = c.run_of-count.result in
    let after = c.submit_run.new in
    let says = c.run_of-count.ensures in
    run_bears c.args.unborn.now.limits (length c.args.passes.now) c.args.cursor.now c.args.families.now c.if-at-passes.true c.args.unborn.now.rest.now n (omega arith) says.inside (lone c.args.manager.now c.args.keeper.now c.args.passes.now) (lone c.args.manager.now after.keeper after.passes)
    (says.rows c.args.keeper.now.seen) says.on c.args.moved.now.items after.moved.items c.submit_run.result c.submit_run.ensures.gives

pub returns-in_err-group-clause-on : goal.returns-in_err-group-clause-on
returns-in_err-group-clause-on c =
    let after = c.bear_next.new in
    group_short (Unit {0}) c.args.unborn.now.limits (length c.args.passes.now) c.args.unborn.now.rest.now c.args.moved.now.items c.args.moved.now.items (bearing c.args.manager.now c.args.keeper.now c.args.passes.now c.args.cursor.now c.args.families.now)
    (bearing c.args.manager.now after.keeper after.passes after.cursor after.families) c.from_residual.result c.in_err-group.field-0.0 _ c.requires.some c.from_residual.ensures.1 c.in_err-group.ensures.gives

pub returns-clause-steps : goal.returns-clause-steps
returns-clause-steps c =
    let after = c.bear_next.new in
    let g = c.in_ok-group.group in
    turn_made c.args.manager.now.limits c.args.keeper.now.given c.args.keeper.now after.keeper c.args.passes.now after.passes c.args.unborn.now.rest.now c.args.moved.now.items c.name.new.moved.items g.count c.in_ok-group.ensures.inside.1 c.name.result c.name.ensures.many c.in_ok-group.ensures.steps

pub returns-clause-on : goal.returns-clause-on
returns-clause-on c =
    let after = c.bear_next.new in
    let g = c.in_ok-group.group in
    group_bears c.args.unborn.now.limits (length c.args.passes.now) c.args.unborn.now.rest.now c.args.moved.now.items c.name.new.moved.items (bearing c.args.manager.now c.args.keeper.now c.args.passes.now c.args.cursor.now c.args.families.now)
    (bearing c.args.manager.now after.keeper after.passes after.cursor after.families) c.name.result g c.in_ok-group.ensures.gives c.requires.some c.in_ok-group.ensures.inside.0 c.in_ok-group.ensures.inside.1 c.name.ensures.named c.name.ensures.many
