use Rattle.std.proofs.Common.{◌≡◌, sum_by}
use Rattle.tp_desk.specs.Steady.{shown}
use Rattle.tp_workers.specs.declared.tally.Shift.{Shift}
use Rattle.tp_workers.specs.Asking.{AsksTurns}
use Rattle.tp_workers.specs.Ran.{RanEach}
use Rattle.tp_workers.proofs.Drains.{Going, left_of}
use Rattle.tp_workers.proofs.rounds.drain.Given as goal

abbrev pub invariant-rounds : goal.invariant-rounds
invariant-rounds g l = record {
  counts : Shift;
  ran : RanEach (Going (shown (λ v. (goal.Server-dyn g v).behaviour v.1)) (shown (λ v. (goal.Server-dyn g v).registers v.1)) (shown (λ v. (goal.Server-dyn g v).pending v.1)) l.manager l.order) l.fn.passes l.fn.servers counts l.passes l.servers;
  asked : RanEach (AsksTurns (shown (λ v. (goal.Server-dyn g v).behaviour v.1)) (shown (λ v. (goal.Server-dyn g v).registers v.1)) (shown (λ v. (goal.Server-dyn g v).pending v.1)) (shown (λ v. (goal.Server-dyn g v).asked v.1)) l.manager l.order) l.fn.passes l.fn.servers counts l.passes l.servers;
  counted : l.done ≡ counts.done;
}

abbrev pub decreases-rounds : goal.decreases-rounds
decreases-rounds g l = sum_by (left_of (shown (λ v. (goal.Server-dyn g v).behaviour v.1)) (shown (λ v. (goal.Server-dyn g v).registers v.1)) (shown (λ v. (goal.Server-dyn g v).pending v.1)) l.manager l.order) l.passes
