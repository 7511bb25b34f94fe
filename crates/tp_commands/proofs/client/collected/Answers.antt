use Rattle.std.proofs.Common.{[], ap, ◌∙◌}
use Rattle.std.proofs.lemmas.Result.{IfOk-weaker}
use Rattle.tp_model.specs.declared.types.Limits.{Limits}
use Rattle.tp_manager.specs.Bounds.{collect_next_steps}
use Rattle.tp_report.specs.Answer.{collected_text, line}
use Rattle.tp_commands.specs.Asked.{TellsCollected}
use Rattle.tp_commands.proofs.Collections.{fewer_alive}
use Rattle.tp_commands.proofs.Listings.{no_more_found}
use Rattle.tp_commands.proofs.client.collected.Goals as goal

pub loop-reply-smaller : goal.loop-reply-smaller
loop-reply-smaller c =
    let l : Limits = c.args.manager.now.limits in
    fewer_alive l c.args.root (collect_next_steps l) c.in-Some.reply c.loop-reply.client c.collect_next.new.pass c.collect_next.ensures.own.1 c.collect_next.ensures.follows c.in-Some.ensures.answer

pub returns-clause-tells : goal.returns-clause-tells
returns-clause-tells c =
    let l : Limits = c.args.manager.now.limits in let root = c.args.root in
    let last = c.collect_next.new.pass in
    let none : TellsCollected l root c.loop-reply.client [] last = (record { follows = c.collect_next.ensures.follows; limits = c.collect_next.ensures.own.1; turn = c.collect_next.ensures.turn }, c.collect_next.ensures.looks, c.in_default.ensures.answer) in
    let all : TellsCollected l root c.args.client.now c.loop-reply.found.items last =
    no_more_found (TellsCollected l root c.loop-reply.client) (TellsCollected l root c.args.client.now) c.loop-reply.found.items last c.loop-reply.invariant.found none in
    IfOk-weaker c.line.result _ _ (λ text is. (c.loop-reply.found.items, all, is ∙ ap (λ xs. line (collected_text root xs)) c.as_slice-replies.ensures.value)) c.line.ensures.text
