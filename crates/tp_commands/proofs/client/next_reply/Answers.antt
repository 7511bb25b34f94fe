use Rattle.std.proofs.Common.{◌≡◌, ◌≤◌, ◌<◌, sym, subst}
use Rattle.tp_model.specs.declared.types.Limits.{Limits}
use Rattle.tp_model.specs.Steps.{rows_of}
use Rattle.tp_model.proofs.Bridges.{element_of-id}
use Rattle.tp_manager.specs.Bounds.{read_steps}
use Rattle.tp_commands.proofs.Finds.{reply_read, still_there}
use Rattle.tp_commands.proofs.client.next_reply.Goals as goal
use Rattle.tp_commands.proofs.client.next_reply.Goals.{In-Ok}

-- the element that was read is the one that was found
same : (c : In-Ok) → c.in-Ok.look.element.id ≡ c.in-Some.id
same c = element_of-id c.read.new.pass.seen c.in-Some.id c.in-Ok.look.element c.in-Ok.ensures.answer.1

pub unreachable-requires : goal.unreachable-requires
unreachable-requires c =
    let l : Limits = c.args.manager.now.limits in
    still_there l (read_steps l) c.args.root c.args.from c.in-Some.id c.args.client.now c.reply.new.pass c.read.new.pass c.in-Some.ensures.answer c.read.ensures.follows c.in-Err.ensures.answer.1

pub returns-clause-inside : goal.returns-clause-inside
returns-clause-inside c =
    let is = same (goal.at.returns-clause-inside c).In-Ok in
    let low : c.args.from ≤ c.in-Ok.look.element.id = subst (λ i. c.args.from ≤ i) (sym is) c.in-Some.ensures.answer.from_on in
    let high : c.in-Ok.look.element.id < rows_of c.args.manager.now.limits = subst (λ i. i < rows_of c.args.manager.now.limits) (sym is) c.in-Some.ensures.inside in
    (low, high)

pub returns-clause-tells : goal.returns-clause-tells
returns-clause-tells c =
    let l : Limits = c.args.manager.now.limits in
    reply_read l c.args.root c.args.from c.in-Some.id c.in-Ok.look c.args.client.now c.reply.new.pass c.read.new.pass (record { follows = c.reply.ensures.follows; limits = c.reply.ensures.own.1; turn = c.reply.ensures.turn }) c.reply.ensures.quiet c.reply.ensures.looks c.in-Some.ensures.answer
    (record { follows = c.read.ensures.follows; limits = c.read.ensures.own.1; turn = c.read.ensures.turn }, c.read.ensures.quiet, c.read.ensures.looks, c.in-Ok.ensures.answer) (same (goal.at.returns-clause-tells c).In-Ok)
