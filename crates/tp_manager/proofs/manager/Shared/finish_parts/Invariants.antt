use Rattle.std.proofs.Common.{◌≡◌, ◌⊎◌, ℕ, ◌-◌, ◌*◌, ◌<◌, ◌≤◌, slice_index}
use Rattle.tp_rule.specs.Views.{view_of, IsSameSeat}
use Rattle.tp_rule.specs.Tables.{table_limits}
use Rattle.tp_manager.specs.Shown.{NoneFalls}
use Rattle.tp_manager.specs.CallSteps.{Looked}
use Rattle.tp_manager.specs.Marks.{Remembers}
use Rattle.tp_manager.proofs.manager.Shared.finish_parts.Given as goal

abbrev pub invariant-loop-part : goal.invariant-loop-part
invariant-loop-part l = record {
  same : IsSameSeat l.initial.seat l.seat;
  remembers : Remembers l.stage (view_of l.seat) l.lows;
  finished : (q : ℕ) → l.from ≤ q → q < l.part → slice_index l.lows q ≡ (table_limits l.self.words).rows;
  others : (q : ℕ) → (q < l.from) ⊎ (l.part ≤ q) → slice_index l.lows q ≡ slice_index l.initial.lows q;
  rises : NoneFalls l.initial.lows l.lows;
  none : l.part ≡ l.from → l.seat ≡ l.initial.seat;
  few : Looked (table_limits l.self.words) (2 * (l.part - l.from)) (view_of l.initial.seat) (view_of l.seat);
}
