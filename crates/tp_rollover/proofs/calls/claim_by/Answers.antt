use Rattle.std.proofs.Common.{◌∙◌, ap, arith, sym, Err, Ok}
use Rattle.tp_plain.specs.Computed.{claim_id_of}
use Rattle.tp_rollover.specs.AloneLaws.{ClaimIdAnswers}
use Rattle.tp_rollover.proofs.AloneGiven.{alone_claim_id}
use Rattle.tp_rollover.specs.Anew.{given}
use Rattle.tp_rollover.specs.Lone.{lone}
use Rattle.tp_rollover.proofs.Calling.{agrees_none, computed, lone_again, made, may_gather}
use Rattle.tp_rollover.proofs.GivingUp.{hand_is}
use Rattle.tp_rollover.proofs.Inside.{claim_busy}
use Rattle.tp_rollover.proofs.Standing.{thread_long}
use Rattle.tp_rollover.proofs.calls.claim_by.Goals as goal

pub gather-requires-clause-all : goal.gather-requires-clause-all
gather-requires-clause-all c = may_gather c.args.keeper.now c.args.passes.now c.args.at c.index-passes-at.result c.claim_id-answer.new.pass c.requires.at c.claim_id-answer.ensures.follows.number c.requires.lone.together.all

pub returns-in-Ok-clause-lone : goal.returns-in-Ok-clause-lone
returns-in-Ok-clause-lone c = lone_again c.args.manager.now c.args.keeper.now c.gather.new.self c.args.passes.now c.gather.new.passes c.args.at c.index-passes-at.result c.claim_id-answer.new.pass _ _ c.requires.lone c.requires.at c.claim_id-answer.ensures.own c.claim_id-answer.ensures.follows c.gather.ensures.gathers c.gather.ensures.keeper c.gather.ensures.own c.gather.ensures.all

pub returns-in-Ok-clause-steps : goal.returns-in-Ok-clause-steps
returns-in-Ok-clause-steps c = made c.args.manager.now c.args.keeper.now c.gather.new.self c.args.passes.now c.gather.new.passes c.args.at c.index-passes-at.result c.claim_id-answer.new.pass _ _ c.requires.lone c.requires.at c.claim_id-answer.ensures.own c.claim_id-answer.ensures.follows c.gather.ensures.gathers c.gather.ensures.keeper c.gather.ensures.own c.gather.ensures.all c.gather.ensures.steps

pub returns-in-Ok-clause-gives : goal.returns-in-Ok-clause-gives
returns-in-Ok-clause-gives c = ap given (sym (computed c.args.manager.now c.args.keeper.now c.gather.new.self c.args.passes.now c.gather.new.passes c.args.at c.index-passes-at.result c.claim_id-answer.new.pass _ _ c.requires.lone c.requires.at c.claim_id-answer.ensures.own c.claim_id-answer.ensures.follows c.gather.ensures.gathers c.gather.ensures.keeper c.gather.ensures.own c.gather.ensures.all (ClaimIdAnswers c.args.id) (λ s i. claim_id_of s i c.args.id) (alone_claim_id c.args.id) (Ok c.in-Ok.work) c.claim_id-answer.ensures.turn c.in-Ok.ensures.answer))

pub returns-in-Err-clause-lone : goal.returns-in-Err-clause-lone
returns-in-Err-clause-lone c = lone_again c.args.manager.now c.args.keeper.now c.gather.new.self c.args.passes.now c.gather.new.passes c.args.at c.index-passes-at.result c.claim_id-answer.new.pass _ _ c.requires.lone c.requires.at c.claim_id-answer.ensures.own c.claim_id-answer.ensures.follows c.gather.ensures.gathers c.gather.ensures.keeper c.gather.ensures.own c.gather.ensures.all

pub returns-in-Err-clause-steps : goal.returns-in-Err-clause-steps
returns-in-Err-clause-steps c = made c.args.manager.now c.args.keeper.now c.gather.new.self c.args.passes.now c.gather.new.passes c.args.at c.index-passes-at.result c.claim_id-answer.new.pass _ _ c.requires.lone c.requires.at c.claim_id-answer.ensures.own c.claim_id-answer.ensures.follows c.gather.ensures.gathers c.gather.ensures.keeper c.gather.ensures.own c.gather.ensures.all c.gather.ensures.steps

pub returns-in-Err-clause-gives : goal.returns-in-Err-clause-gives
returns-in-Err-clause-gives c = agrees_none c.stop_for.result _ _ (ap given (sym (computed c.args.manager.now c.args.keeper.now c.gather.new.self c.args.passes.now c.gather.new.passes c.args.at c.index-passes-at.result c.claim_id-answer.new.pass _ _ c.requires.lone c.requires.at c.claim_id-answer.ensures.own c.claim_id-answer.ensures.follows c.gather.ensures.gathers c.gather.ensures.keeper c.gather.ensures.own c.gather.ensures.all (ClaimIdAnswers c.args.id) (λ s i. claim_id_of s i c.args.id) (alone_claim_id c.args.id) (Err c.in-Err.refusal) c.claim_id-answer.ensures.turn c.in-Err.ensures.answer)))

pub claim_id-answer-requires-clause-free : goal.claim_id-answer-requires-clause-free
claim_id-answer-requires-clause-free c = sym (hand_is c.args.manager.now.limits c.args.passes.now c.args.keeper.now.seen c.args.at c.index-passes-at.result c.requires.at) ∙ c.requires.free

pub returns-in-Ok-clause-busy : goal.returns-in-Ok-clause-busy
returns-in-Ok-clause-busy c =
    let long = thread_long c.args.manager.now.limits c.args.passes.now c.args.keeper.now.seen in
    claim_busy (lone c.args.manager.now c.args.keeper.now c.args.passes.now) (lone c.args.manager.now c.gather.new.self c.gather.new.passes) c.args.at c.args.id c.in-Ok.work (let less = c.requires.at in omega (arith, less, long))
    (computed c.args.manager.now c.args.keeper.now c.gather.new.self c.args.passes.now c.gather.new.passes c.args.at c.index-passes-at.result c.claim_id-answer.new.pass _ _ c.requires.lone c.requires.at c.claim_id-answer.ensures.own c.claim_id-answer.ensures.follows c.gather.ensures.gathers c.gather.ensures.keeper c.gather.ensures.own c.gather.ensures.all (ClaimIdAnswers c.args.id) (λ s i. claim_id_of s i c.args.id) (alone_claim_id c.args.id) (Ok c.in-Ok.work) c.claim_id-answer.ensures.turn c.in-Ok.ensures.answer)
