use Rattle.std.proofs.Common.{◌≡◌, ◌+◌, ◌-◌, ◌*◌, ◌<◌, ◌≤◌, ℕ, slice_index}
use Rattle.tp_rule.specs.Tables.{table_limits}
use Rattle.tp_rule.specs.Views.{IsSameSeat, view_of}
use Rattle.tp_manager.specs.Bounds.{looks_if, scan_steps, try_steps}
use Rattle.tp_manager.specs.RowSteps.{parts_left}
use Rattle.tp_model.specs.Steps.{part_rows}
use Rattle.tp_manager.specs.Shown.{NoneFalls}
use Rattle.tp_manager.specs.Leans.{IsLeanIn}
use Rattle.tp_manager.specs.Marks.{Remembers, RemembersGaps, RestsAt}
use Rattle.tp_manager.specs.Scans.{Begun, OfPart, PassedBy}
use Rattle.tp_manager.proofs.manager.Shared.scan_parts.Given as goal

abbrev pub invariant-loop-part : goal.invariant-loop-part
invariant-loop-part l = record {
  same : IsSameSeat l.initial.seat l.seat;
  remembers : Remembers l.who.stage (view_of l.seat) l.lows;
  gaps : RemembersGaps l.who.stage (view_of l.seat) l.gaps;
  rises : NoneFalls l.initial.lows l.lows;
  from : l.begin ≤ l.part;
  top : l.part ≤ (table_limits l.self.words).parts;
  rest : (q : ℕ) → l.part ≤ q → slice_index l.lows q ≡ slice_index l.initial.lows q;
  done : (q : ℕ) → q < l.begin → slice_index l.lows q ≡ (table_limits l.self.words).rows;
  rests : (q : ℕ) → l.begin ≤ q → q < l.part → RestsAt (table_limits l.self.words) l.who.stage q (slice_index l.lows q) (view_of l.initial.seat) (view_of l.seat);
  lean : IsLeanIn (table_limits l.self.words) l.who.stage (3 * parts_left (table_limits l.self.words) l.initial.lows l.part + 2 * (l.part + 1 - (table_limits l.self.words).parts) + looks_if l.tried) l.initial.lows l.part (part_rows (table_limits l.self.words)) (view_of l.initial.seat) (view_of l.seat);
  begun : Begun (table_limits l.self.words) (OfPart (table_limits l.self.words) (PassedBy (table_limits l.self.words) l.who.stage)) (scan_steps (table_limits l.self.words) try_steps 3 l.initial.lows l.part) l.begin l.part (view_of l.initial.seat) (view_of l.seat);
}

abbrev pub decreases-loop-part : goal.decreases-loop-part
decreases-loop-part l = (table_limits l.self.words).parts - l.part
