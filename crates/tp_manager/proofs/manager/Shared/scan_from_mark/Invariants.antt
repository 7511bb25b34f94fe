use Rattle.std.proofs.Common.{◌<◌, ◌≡◌, ◌-◌, ◌+◌, ◌*◌, ◌≤◌}
use Rattle.tp_rule.specs.Tables.{table_limits}
use Rattle.tp_rule.specs.Views.{IsSameSeat, seen_by, view_of}
use Rattle.tp_manager.specs.Bounds.{try_steps}
use Rattle.tp_manager.specs.Leans.{IsLeanAt}
use Rattle.tp_manager.specs.Marks.{Rose, WasOfUse}
use Rattle.tp_manager.specs.Scans.{Begun, PassedBy}
use Rattle.tp_manager.proofs.manager.Shared.scan_from_mark.Given as goal

abbrev pub invariant-loop-row : goal.invariant-loop-row
invariant-loop-row l = record {
  same : IsSameSeat l.initial.seat l.seat;
  lows : l.lows ≡ l.initial.lows;
  gaps : l.gaps ≡ l.initial.gaps;
  from : l.begin ≤ l.row;
  inside : l.row ≤ l.end;
  above : l.begin ≤ l.low;
  low : l.low ≤ l.row;
  rose : Rose l.who.stage (view_of l.seat) (l.first + l.mark) l.low;
  stuck : l.low < l.row → WasOfUse (table_limits l.self.words) l.who.stage l.low (seen_by l.initial.seat) (seen_by l.seat);
  lean : IsLeanAt (table_limits l.self.words) l.who.stage 0 l.begin (l.row - l.begin) (view_of l.initial.seat) (view_of l.seat);
  begun : Begun (table_limits l.self.words) (PassedBy (table_limits l.self.words) l.who.stage) ((l.row - l.begin) * try_steps) l.begin l.row (view_of l.initial.seat) (view_of l.seat);
}

abbrev pub decreases-loop-row : goal.decreases-loop-row
decreases-loop-row l = l.end - l.row
