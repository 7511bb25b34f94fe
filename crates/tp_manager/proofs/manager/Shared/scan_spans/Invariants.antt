use Rattle.std.proofs.Common.{◌≡◌, ℕ, slice_index, ◌-◌, ◌+◌, ◌*◌, ◌≤◌}
use Rattle.tp_rule.specs.Tables.{table_limits}
use Rattle.tp_rule.specs.Views.{IsSameSeat, view_of}
use Rattle.tp_manager.specs.Bounds.{scan_steps, try_steps}
use Rattle.tp_manager.specs.Shown.{NoneFalls}
use Rattle.tp_manager.specs.CallSteps.{StepsTo}
use Rattle.tp_manager.specs.Leans.{IsLeanAmong}
use Rattle.tp_manager.specs.Marks.{Remembers}
use Rattle.tp_manager.specs.Scans.{Begun, PassedBy}
use Rattle.tp_manager.proofs.manager.Shared.scan_spans.Given as goal

abbrev pub invariant-loop-part : goal.invariant-loop-part
invariant-loop-part l = record {
  from : l.from ≤ l.row;
  -- the row is after all parts so far, or is the end
  reach : l.part * l.rows ≤ l.row + (l.part * l.rows - l.to);
  inside : l.row ≤ l.to;
  same : IsSameSeat l.initial.seat l.seat;
  remembers : Remembers l.who.stage (view_of l.seat) l.lows;
  rises : NoneFalls l.initial.lows l.lows;
  rest : (q : ℕ) → l.part ≤ q → slice_index l.lows q ≡ slice_index l.initial.lows q;
  few : StepsTo (scan_steps (table_limits l.self.words) try_steps 3 l.initial.lows l.part) (view_of l.initial.seat) (view_of l.seat);
  lean : IsLeanAmong (table_limits l.self.words) l.who.stage (3 * l.part) l.initial.lows l.part l.from l.to (view_of l.initial.seat) (view_of l.seat);
  begun : Begun (table_limits l.self.words) (PassedBy (table_limits l.self.words) l.who.stage) (3 * l.part + (l.row - l.from) * try_steps) l.from l.row (view_of l.initial.seat) (view_of l.seat);
}
