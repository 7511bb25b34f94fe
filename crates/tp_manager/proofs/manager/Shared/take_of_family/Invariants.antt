use Rattle.tp_rule.specs.Tables.{table_limits}
use Rattle.tp_rule.specs.Views.{IsSameSeat, view_of}
use Rattle.tp_manager.specs.Families.{CollectingNext}
use Rattle.tp_manager.specs.RowSets.{IsEmpty}
use Rattle.tp_manager.proofs.manager.Shared.take_of_family.Given as goal

abbrev pub invariant-loop-past : goal.invariant-loop-past
invariant-loop-past l = record {
  same : IsSameSeat l.initial.seat l.seat;
  none : IsEmpty l.rows;
  taking : CollectingNext (table_limits l.self.words) l.root l.from l._past (view_of l.initial.seat) (view_of l.seat);
}
