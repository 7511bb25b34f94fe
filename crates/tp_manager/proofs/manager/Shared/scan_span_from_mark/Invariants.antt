use Rattle.std.proofs.Common.{◌≡◌, ℕ, ◌-◌, ◌+◌, ◌*◌, ◌≤◌}
use Rattle.tp_rule.specs.Tables.{table_limits}
use Rattle.tp_rule.specs.Views.{IsSameSeat, view_of}
use Rattle.tp_manager.specs.Bounds.{try_steps}
use Rattle.tp_manager.specs.Leans.{IsLeanAt}
use Rattle.tp_manager.specs.Marks.{Rose}
use Rattle.tp_manager.specs.Scans.{Begun, PassedBy}
use Rattle.tp_manager.proofs.manager.Shared.scan_span_from_mark.Given as goal

abbrev pub invariant-loop-row : goal.invariant-loop-row
invariant-loop-row l = record {
  same : IsSameSeat l.initial.seat l.seat;
  lows : l.lows ≡ l.initial.lows;
  from : l.begin ≤ l.row;
  inside : l.row ≤ l.first + l.rows;
  above : l.known ≤ l.low;
  low : l.low ≤ l.row;
  rose : Rose l.stage (view_of l.seat) (l.first + l.mark) l.low;
  lean : (k : ℕ) × (k ≤ l.row - l.begin) × (k ≤ l.to - l.begin) × IsLeanAt (table_limits l.self.words) l.stage 0 l.begin k (view_of l.initial.seat) (view_of l.seat);
  begun : (k : ℕ) × (k ≤ l.row - l.begin) × (k ≤ l.to - l.begin) × Begun (table_limits l.self.words) (PassedBy (table_limits l.self.words) l.stage) (k * try_steps) l.begin l.row (view_of l.initial.seat) (view_of l.seat);
}

abbrev pub decreases-loop-row : goal.decreases-loop-row
decreases-loop-row l = l.to - l.row
