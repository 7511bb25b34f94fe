use Rattle.std.proofs.Common.{arith}
use Rattle.tp_workers.specs.Asking.{AsksTurns}
use Rattle.tp_workers.specs.Desks.{DeskWorked, IsDeskOf}
use Rattle.tp_workers.proofs.Ran.{may_run, ran_as}
use Rattle.tp_workers.proofs.Shifts.{const_fits, desks_ready, each_as}
use Rattle.tp_workers.proofs.Turns.{turns_total}
use Rattle.tp_workers.proofs.rounds.work_off_each.Goals as goal

pub in_turn-requires : goal.in_turn-requires
in_turn-requires g c = record {
  may_run = may_run _ _ (IsDeskOf _ _ _ c.args.manager.now) (λ x. c.args.plan.turns) (λ p q n ready. ready)
      (λ p p' q q' n s post. omega (arith, turns_total c.args.plan.order _ _ _ _ s post.0.turns_taken.calls, post.0.turns_taken.at_most)) _ _ c.requires.paired
      (desks_ready c.args.manager.now _ _ _ _ _ c.requires.paired c.requires.free c.requires.clear)
      (let e = const_fits c.args.plan.turns _ _ c.requires.paired in omega (arith, e, c.requires.fit));
}

pub returns : goal.returns
returns g c = record {
  ran = each_as (ran_as _ _ (DeskWorked _ _ _ c.args.manager.now c.args.plan) (λ p p' q q' n s post. post.0)) _ _ _ _ _ c.in_turn.ensures.ran;
  asked = each_as (ran_as _ _ (AsksTurns _ _ _ _ c.args.manager.now c.args.plan.order) (λ p p' q q' n s post. post.1)) _ _ _ _ _ c.in_turn.ensures.ran;
}
