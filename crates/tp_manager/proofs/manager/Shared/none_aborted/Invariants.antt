use Rattle.std.proofs.Common.{◌≤◌}
use Rattle.tp_rule.specs.Tables.{table_limits}
use Rattle.tp_rule.specs.Views.{IsSameSeat, view_of}
use Rattle.tp_manager.specs.CallSteps.{Looked}
use Rattle.tp_manager.specs.UnitsSeen.{RemembersUnits}
use Rattle.tp_manager.proofs.manager.Shared.none_aborted.Given as goal

abbrev pub invariant-loop-look : goal.invariant-loop-look
invariant-loop-look l = record {
  same : IsSameSeat l.initial.seat l.seat;
  remembers : RemembersUnits (view_of l.seat) l.units.committed;
  few : (l.ahead ≤ 1024) × (l.next ≤ 1024);
  looked : Looked (table_limits l.self.words) l._look (view_of l.initial.seat) (view_of l.seat);
}
