use Rattle.std.proofs.Common.{ℕ, ◌<◌, ◌-◌, ◌*◌, ◌≤◌}
use Rattle.tp_model.specs.Steps.{rows_of}
use Rattle.tp_rule.specs.Tables.{table_limits}
use Rattle.tp_rule.specs.Views.{IsSameSeat, seen_by, view_of}
use Rattle.tp_manager.specs.Bounds.{try_steps}
use Rattle.tp_manager.specs.Leans.{IsLeanAt}
use Rattle.tp_manager.specs.Marks.{AreOfStage, IsGap, Rose}
use Rattle.tp_manager.specs.Scans.{Begun, PassedBy}
use Rattle.tp_manager.proofs.manager.Shared.scan_run.Given as goal

abbrev pub invariant-loop-row : goal.invariant-loop-row
invariant-loop-row l = record {
  same : IsSameSeat l.initial.seat l.seat;
  from : l.from ≤ l.row;
  inside : l.row ≤ rows_of (table_limits l.self.words);
  low : l.low ≤ l.row;
  gap : IsGap l.stage (view_of l.seat) l.gap;
  run : Rose l.stage (view_of l.seat) l.begin l.low;
  start : (l.start < 65536) × AreOfStage l.stage (seen_by l.seat) l.start l.begin;
  born : (l.born ≤ l.row) × AreOfStage l.stage (seen_by l.seat) l.born l.row;
  lean : (k : ℕ) × (k ≤ l.row - l.from) × (k ≤ l.to - l.from) × IsLeanAt (table_limits l.self.words) l.stage 0 l.from k (view_of l.initial.seat) (view_of l.seat);
  begun : (k : ℕ) × (k ≤ l.row - l.from) × (k ≤ l.to - l.from) × Begun (table_limits l.self.words) (PassedBy (table_limits l.self.words) l.stage) (k * try_steps) l.from l.row (view_of l.initial.seat) (view_of l.seat);
}

abbrev pub decreases-loop-row : goal.decreases-loop-row
decreases-loop-row l = l.to - l.row
