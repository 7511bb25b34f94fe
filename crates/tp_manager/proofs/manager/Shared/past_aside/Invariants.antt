use Rattle.std.proofs.Common.{◌≡◌, ◌⊎◌, ℕ, ◌+◌, ◌-◌, ◌*◌, ◌<◌, ◌≤◌, slice_index}
use Rattle.tp_rule.specs.Views.{view_of, IsSameSeat}
use Rattle.tp_rule.specs.Tables.{table_limits}
use Rattle.tp_manager.specs.CallSteps.{Acted, Looked}
use Rattle.tp_manager.specs.Marks.{Rose}
use Rattle.tp_manager.proofs.manager.Shared.past_aside.Given as goal

abbrev pub invariant-loop-part : goal.invariant-loop-part
invariant-loop-part l = record {
  same : IsSameSeat l.initial.seat l.seat;
  from : l.from ≤ l.part;
  begins : l.first ≡ l.part * l.rows;
  left : (q : ℕ) → l.from ≤ q → q < l.part → ¬ (slice_index l.lows q ≡ (table_limits l.self.words).rows);
  rose : (q : ℕ) → l.from ≤ q → q < l.part → Rose l.stage (view_of l.seat) (q * (table_limits l.self.words).rows + slice_index l.lows q) (q * (table_limits l.self.words).rows + (table_limits l.self.words).rows);
  few : Looked (table_limits l.self.words) (l.part - l.from) (view_of l.initial.seat) (view_of l.seat);
  acted : ((l.part ≡ l.from) × (l.seat ≡ l.initial.seat)) ⊎ Acted (table_limits l.self.words) (l.part - l.from) (view_of l.initial.seat) (view_of l.seat);
}
