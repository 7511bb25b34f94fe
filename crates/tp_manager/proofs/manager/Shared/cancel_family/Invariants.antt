use Rattle.tp_rule.specs.Tables.{table_limits}
use Rattle.tp_rule.specs.Views.{IsSameSeat, view_of}
use Rattle.tp_manager.specs.Endings.{Cancelling}
use Rattle.tp_manager.specs.Aheads.{IsAhead, IsSorted}
use Rattle.tp_manager.proofs.manager.Shared.cancel_family.Given as goal

abbrev pub invariant-loop-past : goal.invariant-loop-past
invariant-loop-past l = record {
  sorted : IsSorted l.ahead l.rows;
  same : IsSameSeat l.initial.seat l.seat;
  cancelling : Cancelling (table_limits l.self.words) l.root l._past l.killed (IsAhead l.ahead l.rows) (view_of l.initial.seat) (view_of l.seat);
}
