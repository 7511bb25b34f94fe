use Rattle.std.proofs.Common.{◌≡◌, ◌*◌, ◌+◌, ◌-◌, ◌≤◌, ℕ, slice_index}
use Rattle.tp_rule.specs.Tables.{table_limits}
use Rattle.tp_rule.specs.Views.{IsSameSeat, view_of}
use Rattle.tp_manager.specs.Bounds.{error_steps, listed_steps, scan_steps}
use Rattle.tp_manager.specs.Finds.{PassedOver}
use Rattle.tp_manager.specs.Marks.{Remembers}
use Rattle.tp_manager.specs.Scans.{EachRow, Sought}
use Rattle.tp_manager.specs.Shown.{NoneFalls}
use Rattle.tp_manager.proofs.manager.Shared.find_in_parts.Given as goal

abbrev pub invariant-loop-part : goal.invariant-loop-part
invariant-loop-part l = record {
  behind : l.begin + 1 ≤ l.part;
  begins : l.first ≡ l.part * l.rows;
  same : IsSameSeat l.fn.seat l.seat;
  remembers : Remembers 0 (view_of l.seat) l.lows;
  rises : NoneFalls l.fn.lows l.lows;
  rest : (q : ℕ) → l.part ≤ q → slice_index l.lows q ≡ slice_index l.fn.lows q;
  sought : Sought (table_limits l.self.words) (2 + ((table_limits l.self.words).rows - slice_index l.fn.lows l.begin) * error_steps + (scan_steps (table_limits l.self.words) listed_steps 2 l.fn.lows l.part - scan_steps (table_limits l.self.words) listed_steps 2 l.fn.lows (l.begin + 1))) (EachRow (PassedOver (table_limits l.self.words)) l.from l.first) (view_of l.fn.seat) (view_of l.seat);
}
