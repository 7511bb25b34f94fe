use Rattle.tp_rule.specs.Tables.{table_limits}
use Rattle.tp_rule.specs.Views.{IsSameSeat, seen_by, view_of}
use Rattle.tp_manager.specs.Bounds.{walk_steps}
use Rattle.tp_manager.specs.Families.{Following}
use Rattle.tp_manager.specs.Aheads.{IsAhead, IsSorted}
use Rattle.tp_manager.specs.CallSteps.{Looked}
use Rattle.tp_manager.proofs.manager.Shared.first_of_family.Given as goal

abbrev pub invariant-loop-past : goal.invariant-loop-past
invariant-loop-past l = record {
  sorted : IsSorted l.ahead l.rows;
  same : IsSameSeat l.initial.seat l.seat;
  looked : Looked (table_limits l.self.words) (walk_steps l._past) (view_of l.initial.seat) (view_of l.seat);
  following : Following (table_limits l.self.words) l.root l.from l._past (IsAhead l.ahead l.rows) l.least (seen_by l.initial.seat) (view_of l.seat);
}
