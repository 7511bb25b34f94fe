use Rattle.std.proofs.Common.{◌≡◌, length}
use Rattle.tp_desk.specs.Steady.{shown}
use Rattle.tp_crew.specs.Crew.{IsSteadyCrew}
use Rattle.tp_images.proofs.day.parked.Given as goal

abbrev pub invariant-loop-past : goal.invariant-loop-past
invariant-loop-past g l = record {
  steady : IsSteadyCrew (shown (λ v. (goal.Server-dyn g v).behaviour v.1)) (shown (λ v. (goal.Server-dyn g v).registers v.1)) (shown (λ v. (goal.Server-dyn g v).pending v.1)) l.crew;
  boxes : length l.crew.boxes.items ≡ length l.fn.crew.boxes.items;
}
