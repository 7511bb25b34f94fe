use Rattle.std.proofs.Common.{arith, ap}
use Rattle.tp_workers.specs.Asking.{AsksTurns}
use Rattle.tp_workers.specs.Desks.{IsDeskOf}
use Rattle.tp_workers.specs.Drained.{TookTurn}
use Rattle.tp_workers.specs.Tally.{total}
use Rattle.tp_workers.proofs.Ran.{may_run, ran_as}
use Rattle.tp_workers.proofs.Shifts.{const_fits, desks_ready, each_as}
use Rattle.tp_workers.proofs.Turns.{one_turn}
use Rattle.tp_workers.proofs.rounds.round.Goals as goal

pub in_turn-requires : goal.in_turn-requires
in_turn-requires g c = record {
  may_run = may_run _ _ (IsDeskOf _ _ _ c.args.manager.now) (λ x. 1) (λ p q n ready. ready) (λ p p' q q' n s post. omega (arith, ap total post.0.counted, one_turn post.0.turned)) _ _ c.requires.paired (desks_ready c.args.manager.now _ _ _ _ _ c.requires.paired c.requires.free c.requires.clear) (let e = const_fits 1 _ _ c.requires.paired in omega (arith, e, c.requires.fit));
}

pub returns : goal.returns
returns g c = record {
  ran = each_as (ran_as _ _ (TookTurn _ _ _ c.args.manager.now c.args.order) (λ p p' q q' n s post. post.0)) _ _ _ _ _ c.in_turn.ensures.ran;
  asked = each_as (ran_as _ _ (AsksTurns _ _ _ _ c.args.manager.now c.args.order) (λ p p' q q' n s post. post.1)) _ _ _ _ _ c.in_turn.ensures.ran;
}
