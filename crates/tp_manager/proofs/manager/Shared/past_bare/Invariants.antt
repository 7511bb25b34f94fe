use Rattle.std.proofs.Common.{◌≡◌, ◌-◌, ◌*◌, ◌<◌, ◌≤◌, ℕ, slice_index}
use Rattle.tp_rule.specs.Tables.{table_limits}
use Rattle.tp_rule.specs.Views.{IsSameSeat, view_of}
use Rattle.tp_manager.specs.Marks.{RestsAt}
use Rattle.tp_manager.specs.Scans.{Begun, OfPart, PassedBy}
use Rattle.tp_manager.proofs.manager.Shared.past_bare.Given as goal

abbrev pub invariant-loop-part : goal.invariant-loop-part
invariant-loop-part l = record {
  same : IsSameSeat l.initial.seat l.seat;
  from : l.from ≤ l.part;
  begins : l.first ≡ l.part * l.rows;
  left : (q : ℕ) → l.from ≤ q → q < l.part → ¬ (slice_index l.lows q ≡ (table_limits l.self.words).rows);
  rests : (q : ℕ) → l.from ≤ q → q < l.part → RestsAt (table_limits l.self.words) l.stage q (slice_index l.lows q) (view_of l.initial.seat) (view_of l.seat);
  begun : Begun (table_limits l.self.words) (OfPart (table_limits l.self.words) (PassedBy (table_limits l.self.words) l.stage)) (l.part - l.from) l.from l.part (view_of l.initial.seat) (view_of l.seat);
}
