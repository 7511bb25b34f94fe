use Rattle.std.proofs.Common.{ℕ, ◌<◌, ◌≡◌, ◌+◌, ◌-◌, ◌*◌, ◌≤◌}
use Rattle.tp_model.specs.Steps.{part_rows, rows_of}
use Rattle.tp_rule.specs.Tables.{table_limits}
use Rattle.tp_rule.specs.Views.{IsSameSeat, seen_by, view_of}
use Rattle.tp_manager.specs.Bounds.{try_steps}
use Rattle.tp_manager.specs.Leans.{IsLeanAt}
use Rattle.tp_manager.specs.Marks.{Rose, WasOfUse}
use Rattle.tp_manager.specs.Scans.{Begun, PassedBy}
use Rattle.tp_manager.proofs.manager.Shared.scan_spare.Given as goal

abbrev pub invariant-loop-row : goal.invariant-loop-row
invariant-loop-row l = record {
  same : IsSameSeat l.initial.seat l.seat;
  lows : l.lows ≡ l.initial.lows;
  gaps : l.gaps ≡ l.initial.gaps;
  from : l.begin ≤ l.row;
  inside : l.row ≤ rows_of (table_limits l.self.words);
  above : l.begin ≤ l.low;
  low : l.low ≤ l.row;
  rose : Rose l.stage (view_of l.seat) (part_rows (table_limits l.self.words) + l.mark) l.low;
  stuck : l.low < l.row → WasOfUse (table_limits l.self.words) l.stage l.low (seen_by l.initial.seat) (seen_by l.seat);
  lean : (k : ℕ) × (k ≤ l.row - l.begin) × (k ≤ l.end - l.begin) × IsLeanAt (table_limits l.self.words) l.stage 0 l.begin k (view_of l.initial.seat) (view_of l.seat);
  begun : Begun (table_limits l.self.words) (PassedBy (table_limits l.self.words) l.stage) ((l.row - l.begin) * try_steps) l.begin l.row (view_of l.initial.seat) (view_of l.seat);
}

abbrev pub decreases-loop-row : goal.decreases-loop-row
decreases-loop-row l = l.end - l.row
