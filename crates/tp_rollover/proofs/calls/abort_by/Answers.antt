use Rattle.std.proofs.Common.{IsSome, ap, subst, sym, Some}
use Rattle.tp_plain.specs.Computed.{abort_of}
use Rattle.tp_manager.specs.Calls.{AnswersAbort}
use Rattle.tp_rollover.proofs.AloneAborts.{alone_abort}
use Rattle.tp_rollover.proofs.Calling.{computed, lone_again, made, may_gather}
use Rattle.tp_rollover.proofs.GivingUp.{hand_is}
use Rattle.tp_rollover.proofs.calls.abort_by.Goals as goal

pub gather-requires-clause-all : goal.gather-requires-clause-all
gather-requires-clause-all c = may_gather c.args.keeper.now c.args.passes.now c.args.at c.index-passes-at.result c.abort.new.pass c.requires.at c.abort.ensures.follows.number c.requires.lone.together.all

pub returns-clause-lone : goal.returns-clause-lone
returns-clause-lone c = lone_again c.args.manager.now c.args.keeper.now c.gather.new.self c.args.passes.now c.gather.new.passes c.args.at c.index-passes-at.result c.abort.new.pass _ _ c.requires.lone c.requires.at c.abort.ensures.own c.abort.ensures.follows c.gather.ensures.gathers c.gather.ensures.keeper c.gather.ensures.own c.gather.ensures.all

pub returns-clause-steps : goal.returns-clause-steps
returns-clause-steps c = made c.args.manager.now c.args.keeper.now c.gather.new.self c.args.passes.now c.gather.new.passes c.args.at c.index-passes-at.result c.abort.new.pass _ _ c.requires.lone c.requires.at c.abort.ensures.own c.abort.ensures.follows c.gather.ensures.gathers c.gather.ensures.keeper c.gather.ensures.own c.gather.ensures.all c.gather.ensures.steps

pub returns-clause-gives : goal.returns-clause-gives
returns-clause-gives c = ap (λ x. Some x.1) (sym (computed c.args.manager.now c.args.keeper.now c.gather.new.self c.args.passes.now c.gather.new.passes c.args.at c.index-passes-at.result c.abort.new.pass _ _ c.requires.lone c.requires.at c.abort.ensures.own c.abort.ensures.follows c.gather.ensures.gathers c.gather.ensures.keeper c.gather.ensures.own c.gather.ensures.all (λ l. AnswersAbort) abort_of alone_abort c.abort.result c.abort.ensures.turn c.abort.ensures.answer))

pub abort-requires-clause-busy : goal.abort-requires-clause-busy
abort-requires-clause-busy c = subst IsSome (hand_is c.args.manager.now.limits c.args.passes.now c.args.keeper.now.seen c.args.at c.index-passes-at.result c.requires.at) c.requires.busy
