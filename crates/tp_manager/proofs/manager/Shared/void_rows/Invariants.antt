use Rattle.tp_rule.specs.Tables.{table_limits}
use Rattle.tp_rule.specs.Views.{IsSameSeat, view_of}
use Rattle.tp_manager.specs.Spares.{AreHeaded}
use Rattle.tp_manager.specs.CallSteps.{Tried}
use Rattle.tp_manager.proofs.manager.Shared.void_rows.Given as goal

abbrev pub invariant-loop-i : goal.invariant-loop-i
invariant-loop-i l = record {
  same : IsSameSeat l.initial.seat l.seat;
  tried : Tried (table_limits l.self.words) l.i (view_of l.initial.seat) (view_of l.seat);
  headed : AreHeaded (view_of l.seat) l.first l.i;
}
