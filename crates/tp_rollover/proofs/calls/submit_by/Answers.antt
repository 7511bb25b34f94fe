use Rattle.std.proofs.Common.{ap, sym, Err, Ok}
use Rattle.tp_plain.specs.Computed.{submit_of}
use Rattle.tp_rollover.specs.AloneLaws.{SubmitAnswers}
use Rattle.tp_rollover.proofs.AloneSubmits.{alone_submit}
use Rattle.tp_rollover.specs.Anew.{given}
use Rattle.tp_rollover.specs.Lone.{lone}
use Rattle.tp_rollover.proofs.Calling.{agrees_none, computed, lone_again, made, may_gather}
use Rattle.tp_rollover.proofs.Inside.{submitted_below}
use Rattle.tp_rollover.proofs.calls.submit_by.Goals as goal

pub gather-requires-clause-all : goal.gather-requires-clause-all
gather-requires-clause-all c = may_gather c.args.keeper.now c.args.passes.now c.args.at c.index-passes-at.result c.submit-answer.new.pass c.requires.at c.submit-answer.ensures.follows.number c.requires.lone.together.all

pub returns-in-Ok-clause-lone : goal.returns-in-Ok-clause-lone
returns-in-Ok-clause-lone c = lone_again c.args.manager.now c.args.keeper.now c.gather.new.self c.args.passes.now c.gather.new.passes c.args.at c.index-passes-at.result c.submit-answer.new.pass _ _ c.requires.lone c.requires.at c.submit-answer.ensures.own c.submit-answer.ensures.follows c.gather.ensures.gathers c.gather.ensures.keeper c.gather.ensures.own c.gather.ensures.all

pub returns-in-Ok-clause-steps : goal.returns-in-Ok-clause-steps
returns-in-Ok-clause-steps c = made c.args.manager.now c.args.keeper.now c.gather.new.self c.args.passes.now c.gather.new.passes c.args.at c.index-passes-at.result c.submit-answer.new.pass _ _ c.requires.lone c.requires.at c.submit-answer.ensures.own c.submit-answer.ensures.follows c.gather.ensures.gathers c.gather.ensures.keeper c.gather.ensures.own c.gather.ensures.all c.gather.ensures.steps

pub returns-in-Ok-clause-gives : goal.returns-in-Ok-clause-gives
returns-in-Ok-clause-gives c = ap given (sym (computed c.args.manager.now c.args.keeper.now c.gather.new.self c.args.passes.now c.gather.new.passes c.args.at c.index-passes-at.result c.submit-answer.new.pass _ _ c.requires.lone c.requires.at c.submit-answer.ensures.own c.submit-answer.ensures.follows c.gather.ensures.gathers c.gather.ensures.keeper c.gather.ensures.own c.gather.ensures.all (λ l. SubmitAnswers c.args.stage c.args.body) (λ s i. submit_of s i c.args.stage c.args.body) (alone_submit c.args.stage c.args.body) (Ok c.in-Ok.id) c.submit-answer.ensures.turn c.in-Ok.ensures.answer))

pub returns-in-Err-clause-lone : goal.returns-in-Err-clause-lone
returns-in-Err-clause-lone c = lone_again c.args.manager.now c.args.keeper.now c.gather.new.self c.args.passes.now c.gather.new.passes c.args.at c.index-passes-at.result c.submit-answer.new.pass _ _ c.requires.lone c.requires.at c.submit-answer.ensures.own c.submit-answer.ensures.follows c.gather.ensures.gathers c.gather.ensures.keeper c.gather.ensures.own c.gather.ensures.all

pub returns-in-Err-clause-steps : goal.returns-in-Err-clause-steps
returns-in-Err-clause-steps c = made c.args.manager.now c.args.keeper.now c.gather.new.self c.args.passes.now c.gather.new.passes c.args.at c.index-passes-at.result c.submit-answer.new.pass _ _ c.requires.lone c.requires.at c.submit-answer.ensures.own c.submit-answer.ensures.follows c.gather.ensures.gathers c.gather.ensures.keeper c.gather.ensures.own c.gather.ensures.all c.gather.ensures.steps

pub returns-in-Err-clause-gives : goal.returns-in-Err-clause-gives
returns-in-Err-clause-gives c = agrees_none c.stop_for.result _ _ (ap given (sym (computed c.args.manager.now c.args.keeper.now c.gather.new.self c.args.passes.now c.gather.new.passes c.args.at c.index-passes-at.result c.submit-answer.new.pass _ _ c.requires.lone c.requires.at c.submit-answer.ensures.own c.submit-answer.ensures.follows c.gather.ensures.gathers c.gather.ensures.keeper c.gather.ensures.own c.gather.ensures.all (λ l. SubmitAnswers c.args.stage c.args.body) (λ s i. submit_of s i c.args.stage c.args.body) (alone_submit c.args.stage c.args.body) (Err c.in-Err.refusal) c.submit-answer.ensures.turn c.in-Err.ensures.answer)))

pub returns-in-Ok-clause-rows : goal.returns-in-Ok-clause-rows
returns-in-Ok-clause-rows c =
    submitted_below c.args.manager.now.limits (lone c.args.manager.now c.args.keeper.now c.args.passes.now) (lone c.args.manager.now c.gather.new.self c.gather.new.passes) c.args.at c.args.stage c.args.body c.in-Ok.id
    (lone_again c.args.manager.now c.args.keeper.now c.gather.new.self c.args.passes.now c.gather.new.passes c.args.at c.index-passes-at.result c.submit-answer.new.pass _ _ c.requires.lone c.requires.at c.submit-answer.ensures.own c.submit-answer.ensures.follows c.gather.ensures.gathers c.gather.ensures.keeper c.gather.ensures.own c.gather.ensures.all).0.together.legal
    (ap given (sym (computed c.args.manager.now c.args.keeper.now c.gather.new.self c.args.passes.now c.gather.new.passes c.args.at c.index-passes-at.result c.submit-answer.new.pass _ _ c.requires.lone c.requires.at c.submit-answer.ensures.own c.submit-answer.ensures.follows c.gather.ensures.gathers c.gather.ensures.keeper c.gather.ensures.own c.gather.ensures.all (λ l. SubmitAnswers c.args.stage c.args.body) (λ s i. submit_of s i c.args.stage c.args.body) (alone_submit c.args.stage c.args.body) (Ok c.in-Ok.id) c.submit-answer.ensures.turn c.in-Ok.ensures.answer)))
