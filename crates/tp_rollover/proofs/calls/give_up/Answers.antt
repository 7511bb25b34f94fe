use Rattle.std.proofs.Common.{◌<◌, ◌∙◌, ap, arith, length, subst, sym}
use Rattle.tp_plain.specs.Computed.{abort_of}
use Rattle.tp_manager.specs.Calls.{AnswersAbort}
use Rattle.tp_rollover.proofs.AloneAborts.{alone_abort}
use Rattle.tp_rollover.specs.Bounds.{AllMake}
use Rattle.tp_rollover.proofs.Calling.{computed, lone_again, made}
use Rattle.tp_rollover.proofs.GivingUp.{gives_open, steps_open}
use Rattle.tp_rollover.proofs.calls.give_up.Goals as goal

pub returns-clause-lone : goal.returns-clause-lone
returns-clause-lone c = lone_again c.args.manager.now c.args.keeper.now c.gather.new.self c.args.passes.now c.gather.new.passes 0 c.index-passes-0-2.result c.abort.new.pass _ _ c.requires.lone (omega (arith, c.requires.some)) c.abort.ensures.own c.abort.ensures.follows c.gather.ensures.gathers c.gather.ensures.keeper c.gather.ensures.own c.gather.ensures.all

pub returns-clause-steps : goal.returns-clause-steps
returns-clause-steps c =
    subst (λ n. AllMake n c.args.keeper.now c.args.passes.now c.gather.new.self c.gather.new.passes) (sym (steps_open c.args.manager.now.limits c.args.keeper.now.given c.args.passes.now c.index-passes-0.result c.requires.some (sym c.if-not-has_open.ensures.answer)))
    (made c.args.manager.now c.args.keeper.now c.gather.new.self c.args.passes.now c.gather.new.passes 0 c.index-passes-0-2.result c.abort.new.pass _ _ c.requires.lone (omega (arith, c.requires.some)) c.abort.ensures.own c.abort.ensures.follows c.gather.ensures.gathers c.gather.ensures.keeper c.gather.ensures.own c.gather.ensures.all c.gather.ensures.steps)

pub returns-clause-gives : goal.returns-clause-gives
returns-clause-gives c =
    let m = c.args.manager.now in
    let less : 0 < length c.args.passes.now = omega (arith, c.requires.some) in
    ap (λ x. x.1) (computed m c.args.keeper.now c.gather.new.self c.args.passes.now c.gather.new.passes 0 c.index-passes-0-2.result c.abort.new.pass _ _ c.requires.lone less c.abort.ensures.own c.abort.ensures.follows c.gather.ensures.gathers c.gather.ensures.keeper c.gather.ensures.own c.gather.ensures.all (λ l. AnswersAbort) abort_of alone_abort c.abort.result c.abort.ensures.turn c.abort.ensures.answer)
    ∙ sym (gives_open m.limits c.args.passes.now c.args.keeper.now.seen 0 c.index-passes-0.result less (sym c.if-not-has_open.ensures.answer))
