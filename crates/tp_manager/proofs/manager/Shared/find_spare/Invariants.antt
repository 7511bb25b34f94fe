use Rattle.std.proofs.Common.{◌≡◌, ◌-◌, ◌*◌, ◌≤◌}
use Rattle.tp_model.specs.Steps.{rows_of}
use Rattle.tp_rule.specs.Tables.{table_limits}
use Rattle.tp_rule.specs.Views.{IsSameSeat, view_of}
use Rattle.tp_manager.specs.Bounds.{error_steps}
use Rattle.tp_manager.specs.Finds.{PassedOver}
use Rattle.tp_manager.specs.Marks.{Rose}
use Rattle.tp_manager.specs.Scans.{Begun}
use Rattle.tp_manager.proofs.manager.Shared.find_spare.Given as goal

abbrev pub invariant-loop-row : goal.invariant-loop-row
invariant-loop-row l = record {
  start : l.start ≤ l.row;
  inside : l.row ≤ rows_of (table_limits l.self.words);
  lows : l.lows ≡ l.initial.lows;
  low : l.low ≤ l.row;
  rose : Rose 0 (view_of l.seat) l.begin l.low;
  same : IsSameSeat l.initial.seat l.seat;
  begun : Begun (table_limits l.self.words) (PassedOver (table_limits l.self.words)) ((l.row - l.start) * error_steps) l.start l.row (view_of l.initial.seat) (view_of l.seat);
}

abbrev pub decreases-loop-row : goal.decreases-loop-row
decreases-loop-row l = l.end - l.row
