use Rattle.std.proofs.Common.{◌-◌, ◌≤◌}
use Rattle.tp_rule.specs.Tables.{table_limits}
use Rattle.tp_rule.specs.Views.{IsSameSeat, view_of}
use Rattle.tp_manager.specs.Leans.{IsLeanAt}
use Rattle.tp_manager.specs.Scans.{Begun, PassedBy}
use Rattle.tp_manager.proofs.manager.Shared.past_parked.Given as goal

abbrev pub invariant-loop-row : goal.invariant-loop-row
invariant-loop-row l = record {
  same : IsSameSeat l.initial.seat l.seat;
  from : l.from ≤ l.row;
  lean : IsLeanAt (table_limits l.self.words) l.stage 0 l.from (l.row - l.from) (view_of l.initial.seat) (view_of l.seat);
  begun : Begun (table_limits l.self.words) (PassedBy (table_limits l.self.words) l.stage) (l.row - l.from) l.from l.row (view_of l.initial.seat) (view_of l.seat);
}
