use Rattle.tp_rule.specs.Tables.{table_limits}
use Rattle.tp_rule.specs.Views.{IsSameSeat, view_of}
use Rattle.tp_manager.specs.Bounds.{scan_steps, unit_looks}
use Rattle.tp_manager.specs.Scans.{Begun}
use Rattle.tp_manager.specs.UnitsSeen.{NoneAborted, RemembersUnits}
use Rattle.tp_manager.proofs.manager.Shared.none_parked.Given as goal

abbrev pub invariant-loop-part : goal.invariant-loop-part
invariant-loop-part l = record {
  same : IsSameSeat l.initial.seat l.seat;
  remembers : RemembersUnits (view_of l.seat) l.units.committed;
  begun : Begun (table_limits l.self.words) (NoneAborted (table_limits l.self.words)) (scan_steps (table_limits l.self.words) unit_looks 1 l.lows (l.part)) 0 l.part (view_of l.initial.seat) (view_of l.seat);
}
