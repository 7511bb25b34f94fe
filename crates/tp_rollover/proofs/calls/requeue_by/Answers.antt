use Rattle.std.proofs.Common.{ap, sym, Err, Ok, Some, option_and_then}
use Rattle.tp_plain.specs.Computed.{requeue_of}
use Rattle.tp_rollover.specs.AloneLaws.{RequeueAnswers}
use Rattle.tp_rollover.proofs.AloneRequeues.{alone_requeue}
use Rattle.tp_rollover.specs.Anew.{given}
use Rattle.tp_rollover.proofs.Calling.{agrees_none, computed, lone_again, made, may_gather}
use Rattle.tp_rollover.proofs.calls.requeue_by.Goals as goal

pub gather-requires-clause-all : goal.gather-requires-clause-all
gather-requires-clause-all c = may_gather c.args.keeper.now c.args.passes.now c.args.at c.index-passes-at.result c.requeue-answer.new.pass c.requires.at c.requeue-answer.ensures.follows.number c.requires.lone.together.all

pub returns-in-Ok-clause-lone : goal.returns-in-Ok-clause-lone
returns-in-Ok-clause-lone c = lone_again c.args.manager.now c.args.keeper.now c.gather.new.self c.args.passes.now c.gather.new.passes c.args.at c.index-passes-at.result c.requeue-answer.new.pass _ _ c.requires.lone c.requires.at c.requeue-answer.ensures.own c.requeue-answer.ensures.follows c.gather.ensures.gathers c.gather.ensures.keeper c.gather.ensures.own c.gather.ensures.all

pub returns-in-Ok-clause-steps : goal.returns-in-Ok-clause-steps
returns-in-Ok-clause-steps c = made c.args.manager.now c.args.keeper.now c.gather.new.self c.args.passes.now c.gather.new.passes c.args.at c.index-passes-at.result c.requeue-answer.new.pass _ _ c.requires.lone c.requires.at c.requeue-answer.ensures.own c.requeue-answer.ensures.follows c.gather.ensures.gathers c.gather.ensures.keeper c.gather.ensures.own c.gather.ensures.all c.gather.ensures.steps

pub returns-in-Ok-clause-gives : goal.returns-in-Ok-clause-gives
returns-in-Ok-clause-gives c = ap (λ x. option_and_then (λ done. Some done.1) (given x)) (sym (computed c.args.manager.now c.args.keeper.now c.gather.new.self c.args.passes.now c.gather.new.passes c.args.at c.index-passes-at.result c.requeue-answer.new.pass _ _ c.requires.lone c.requires.at c.requeue-answer.ensures.own c.requeue-answer.ensures.follows c.gather.ensures.gathers c.gather.ensures.keeper c.gather.ensures.own c.gather.ensures.all (RequeueAnswers c.args.id) (λ s i. requeue_of s i c.args.id) (alone_requeue c.args.id) (Ok c.in-Ok._round) c.requeue-answer.ensures.turn c.in-Ok.ensures.answer))

pub returns-in-Err-clause-lone : goal.returns-in-Err-clause-lone
returns-in-Err-clause-lone c = lone_again c.args.manager.now c.args.keeper.now c.gather.new.self c.args.passes.now c.gather.new.passes c.args.at c.index-passes-at.result c.requeue-answer.new.pass _ _ c.requires.lone c.requires.at c.requeue-answer.ensures.own c.requeue-answer.ensures.follows c.gather.ensures.gathers c.gather.ensures.keeper c.gather.ensures.own c.gather.ensures.all

pub returns-in-Err-clause-steps : goal.returns-in-Err-clause-steps
returns-in-Err-clause-steps c = made c.args.manager.now c.args.keeper.now c.gather.new.self c.args.passes.now c.gather.new.passes c.args.at c.index-passes-at.result c.requeue-answer.new.pass _ _ c.requires.lone c.requires.at c.requeue-answer.ensures.own c.requeue-answer.ensures.follows c.gather.ensures.gathers c.gather.ensures.keeper c.gather.ensures.own c.gather.ensures.all c.gather.ensures.steps

pub returns-in-Err-clause-gives : goal.returns-in-Err-clause-gives
returns-in-Err-clause-gives c = agrees_none c.stop_for.result _ _ (ap (λ x. option_and_then (λ done. Some done.1) (given x)) (sym (computed c.args.manager.now c.args.keeper.now c.gather.new.self c.args.passes.now c.gather.new.passes c.args.at c.index-passes-at.result c.requeue-answer.new.pass _ _ c.requires.lone c.requires.at c.requeue-answer.ensures.own c.requeue-answer.ensures.follows c.gather.ensures.gathers c.gather.ensures.keeper c.gather.ensures.own c.gather.ensures.all (RequeueAnswers c.args.id) (λ s i. requeue_of s i c.args.id) (alone_requeue c.args.id) (Err c.in-Err.refusal) c.requeue-answer.ensures.turn c.in-Err.ensures.answer)))
