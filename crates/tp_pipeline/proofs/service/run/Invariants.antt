use Rattle.std.proofs.Common.{◌≤◌}
use Rattle.tp_desk.specs.Steady.{shown}
use Rattle.tp_crew.specs.Crew.{IsSteadyCrew}
use Rattle.tp_pipeline.specs.Books.{CrewGoesOn, IsStaffed}
use Rattle.tp_pipeline.specs.Ends.{AddUp}
use Rattle.tp_pipeline.proofs.service.run.Given as goal

abbrev pub invariant-loop-batch : goal.invariant-loop-batch
invariant-loop-batch g l = record {
  steady : IsSteadyCrew (shown (λ v. (goal.Server-dyn g v).behaviour v.1)) (shown (λ v. (goal.Server-dyn g v).registers v.1)) (shown (λ v. (goal.Server-dyn g v).pending v.1)) l.crew;
  staffed : IsStaffed l.crew;
  goes_on : CrewGoesOn (shown (λ v. (goal.Server-dyn g v).behaviour v.1)) (shown (λ v. (goal.Server-dyn g v).registers v.1)) l.fn.crew l.crew;
  add_up : AddUp l.books;
  few : l.books.submitted ≤ l.task.payments;
}
