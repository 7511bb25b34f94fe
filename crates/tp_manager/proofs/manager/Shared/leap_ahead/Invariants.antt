use Rattle.std.proofs.Common.{◌-◌, ◌<◌, ◌≤◌}
use Rattle.tp_rule.specs.Views.{view_of, IsSameSeat}
use Rattle.tp_rule.specs.Tables.{table_limits}
use Rattle.tp_manager.specs.CallSteps.{Looked}
use Rattle.tp_manager.specs.Marks.{Rose}
use Rattle.tp_manager.proofs.manager.Shared.leap_ahead.Given as goal

abbrev pub invariant-loop-look : goal.invariant-loop-look
invariant-loop-look l = record {
  same : IsSameSeat l.initial.seat l.seat;
  row : (l.first < l.row) × (l.row ≤ l.end);
  rose : Rose l.stage (view_of l.seat) l.first l.row;
  spent : l.spare ≤ l.row - l.first;
  few : Looked (table_limits l.self.words) (l.row - l.first - l.spare) (view_of l.initial.seat) (view_of l.seat);
}
