use Rattle.std.proofs.Common.{IsSome, ap, subst, sym}
use Rattle.tp_model.specs.declared.types.Outcome.TheVariants as outcomes
use Rattle.tp_plain.specs.Computed.{commit_of}
use Rattle.tp_manager.specs.Calls.{Settles}
use Rattle.tp_rollover.proofs.AloneCommits.{alone_commit}
use Rattle.tp_rollover.specs.Anew.{first_given}
use Rattle.tp_rollover.specs.Lone.{lone}
use Rattle.tp_rollover.proofs.Calling.{computed, lone_again, made, may_gather}
use Rattle.tp_rollover.proofs.GivingUp.{hand_is}
use Rattle.tp_rollover.proofs.Inside.{committed_below}
use Rattle.tp_rollover.proofs.calls.commit_by.Goals as goal

pub gather-requires-clause-all : goal.gather-requires-clause-all
gather-requires-clause-all c = may_gather c.args.keeper.now c.args.passes.now c.args.at c.index-passes-at.result c.commit-outcome.new.pass c.requires.at c.commit-outcome.ensures.follows.number c.requires.lone.together.all

pub returns-in-Committed-clause-lone : goal.returns-in-Committed-clause-lone
returns-in-Committed-clause-lone c = lone_again c.args.manager.now c.args.keeper.now c.gather.new.self c.args.passes.now c.gather.new.passes c.args.at c.index-passes-at.result c.commit-outcome.new.pass _ _ c.requires.lone c.requires.at c.commit-outcome.ensures.own c.commit-outcome.ensures.follows c.gather.ensures.gathers c.gather.ensures.keeper c.gather.ensures.own c.gather.ensures.all

pub returns-in-Committed-clause-steps : goal.returns-in-Committed-clause-steps
returns-in-Committed-clause-steps c = made c.args.manager.now c.args.keeper.now c.gather.new.self c.args.passes.now c.gather.new.passes c.args.at c.index-passes-at.result c.commit-outcome.new.pass _ _ c.requires.lone c.requires.at c.commit-outcome.ensures.own c.commit-outcome.ensures.follows c.gather.ensures.gathers c.gather.ensures.keeper c.gather.ensures.own c.gather.ensures.all c.gather.ensures.steps

pub returns-in-Committed-clause-gives : goal.returns-in-Committed-clause-gives
returns-in-Committed-clause-gives c = ap first_given (sym (computed c.args.manager.now c.args.keeper.now c.gather.new.self c.args.passes.now c.gather.new.passes c.args.at c.index-passes-at.result c.commit-outcome.new.pass _ _ c.requires.lone c.requires.at c.commit-outcome.ensures.own c.commit-outcome.ensures.follows c.gather.ensures.gathers c.gather.ensures.keeper c.gather.ensures.own c.gather.ensures.all (λ l. Settles c.args.drafts.now) (λ s i. commit_of s i c.args.drafts.now) (alone_commit c.args.drafts.now) (outcomes.Committed c.in-Committed.first c.in-Committed.count) c.commit-outcome.ensures.turn c.in-Committed.ensures.answer))

pub returns-in-Lost-clause-lone : goal.returns-in-Lost-clause-lone
returns-in-Lost-clause-lone c = lone_again c.args.manager.now c.args.keeper.now c.gather.new.self c.args.passes.now c.gather.new.passes c.args.at c.index-passes-at.result c.commit-outcome.new.pass _ _ c.requires.lone c.requires.at c.commit-outcome.ensures.own c.commit-outcome.ensures.follows c.gather.ensures.gathers c.gather.ensures.keeper c.gather.ensures.own c.gather.ensures.all

pub returns-in-Lost-clause-steps : goal.returns-in-Lost-clause-steps
returns-in-Lost-clause-steps c = made c.args.manager.now c.args.keeper.now c.gather.new.self c.args.passes.now c.gather.new.passes c.args.at c.index-passes-at.result c.commit-outcome.new.pass _ _ c.requires.lone c.requires.at c.commit-outcome.ensures.own c.commit-outcome.ensures.follows c.gather.ensures.gathers c.gather.ensures.keeper c.gather.ensures.own c.gather.ensures.all c.gather.ensures.steps

pub returns-in-Full-clause-lone : goal.returns-in-Full-clause-lone
returns-in-Full-clause-lone c = lone_again c.args.manager.now c.args.keeper.now c.gather.new.self c.args.passes.now c.gather.new.passes c.args.at c.index-passes-at.result c.commit-outcome.new.pass _ _ c.requires.lone c.requires.at c.commit-outcome.ensures.own c.commit-outcome.ensures.follows c.gather.ensures.gathers c.gather.ensures.keeper c.gather.ensures.own c.gather.ensures.all

pub returns-in-Full-clause-steps : goal.returns-in-Full-clause-steps
returns-in-Full-clause-steps c = made c.args.manager.now c.args.keeper.now c.gather.new.self c.args.passes.now c.gather.new.passes c.args.at c.index-passes-at.result c.commit-outcome.new.pass _ _ c.requires.lone c.requires.at c.commit-outcome.ensures.own c.commit-outcome.ensures.follows c.gather.ensures.gathers c.gather.ensures.keeper c.gather.ensures.own c.gather.ensures.all c.gather.ensures.steps

pub returns-in-Full-clause-gives : goal.returns-in-Full-clause-gives
returns-in-Full-clause-gives c = ap first_given (sym (computed c.args.manager.now c.args.keeper.now c.gather.new.self c.args.passes.now c.gather.new.passes c.args.at c.index-passes-at.result c.commit-outcome.new.pass _ _ c.requires.lone c.requires.at c.commit-outcome.ensures.own c.commit-outcome.ensures.follows c.gather.ensures.gathers c.gather.ensures.keeper c.gather.ensures.own c.gather.ensures.all (λ l. Settles c.args.drafts.now) (λ s i. commit_of s i c.args.drafts.now) (alone_commit c.args.drafts.now) outcomes.Full c.commit-outcome.ensures.turn c.in-Full.ensures.answer))

pub returns-in-Lost-clause-gives : goal.returns-in-Lost-clause-gives
returns-in-Lost-clause-gives c = ap first_given (sym (computed c.args.manager.now c.args.keeper.now c.gather.new.self c.args.passes.now c.gather.new.passes c.args.at c.index-passes-at.result c.commit-outcome.new.pass _ _ c.requires.lone c.requires.at c.commit-outcome.ensures.own c.commit-outcome.ensures.follows c.gather.ensures.gathers c.gather.ensures.keeper c.gather.ensures.own c.gather.ensures.all (λ l. Settles c.args.drafts.now) (λ s i. commit_of s i c.args.drafts.now) (alone_commit c.args.drafts.now) outcomes.Lost c.commit-outcome.ensures.turn c.in-Lost.ensures.answer))

pub commit-outcome-requires-clause-busy : goal.commit-outcome-requires-clause-busy
commit-outcome-requires-clause-busy c = subst IsSome (hand_is c.args.manager.now.limits c.args.passes.now c.args.keeper.now.seen c.args.at c.index-passes-at.result c.requires.at) c.requires.busy

pub returns-in-Committed-clause-rows : goal.returns-in-Committed-clause-rows
returns-in-Committed-clause-rows c =
    committed_below c.args.manager.now.limits (lone c.args.manager.now c.args.keeper.now c.args.passes.now) (lone c.args.manager.now c.gather.new.self c.gather.new.passes) c.args.at c.args.drafts.now c.in-Committed.first
    (lone_again c.args.manager.now c.args.keeper.now c.gather.new.self c.args.passes.now c.gather.new.passes c.args.at c.index-passes-at.result c.commit-outcome.new.pass _ _ c.requires.lone c.requires.at c.commit-outcome.ensures.own c.commit-outcome.ensures.follows c.gather.ensures.gathers c.gather.ensures.keeper c.gather.ensures.own c.gather.ensures.all).0.together.legal c.requires.some
    (ap first_given (sym (computed c.args.manager.now c.args.keeper.now c.gather.new.self c.args.passes.now c.gather.new.passes c.args.at c.index-passes-at.result c.commit-outcome.new.pass _ _ c.requires.lone c.requires.at c.commit-outcome.ensures.own c.commit-outcome.ensures.follows c.gather.ensures.gathers c.gather.ensures.keeper c.gather.ensures.own c.gather.ensures.all (λ l. Settles c.args.drafts.now) (λ s i. commit_of s i c.args.drafts.now) (alone_commit c.args.drafts.now) (outcomes.Committed c.in-Committed.first c.in-Committed.count) c.commit-outcome.ensures.turn c.in-Committed.ensures.answer)))
