use Rattle.std.proofs.Common.{◌≡◌}
use Rattle.tp_desk.specs.Steady.{shown}
use Rattle.tp_workers.specs.Asking.{AsksTurns}
use Rattle.tp_workers.proofs.Turns.{SoFar}
use Rattle.tp_workers.proofs.desks.take_turns.Given as goal

abbrev pub invariant-loop-i : goal.invariant-loop-i
invariant-loop-i g l = record {
  asked : AsksTurns (shown (λ v. (goal.Server-dyn g v).behaviour v.1)) (shown (λ v. (goal.Server-dyn g v).registers v.1)) (shown (λ v. (goal.Server-dyn g v).pending v.1)) (shown (λ v. (goal.Server-dyn g v).asked v.1)) l.fn.desk.manager.now l.plan.order (l.fn.desk.pass.now, l.fn.desk.server.now) l.counts (l.desk.pass.now, l.desk.server.now);
  so_far : SoFar (λ v. (goal.Server-dyn g v).behaviour v.1) (λ v. (goal.Server-dyn g v).registers v.1) (λ v. (goal.Server-dyn g v).pending v.1) l.plan.order l._i l.fn.desk l.counts l.desk;
  none_left_out : l.counts.nounit ≡ 0;
}
