use Rattle.std.proofs.Common.{◌≡◌, ◌⊎◌, ◌*◌, ◌<◌, ◌≤◌, ℕ}
use Rattle.tp_model.specs.Steps.{part_rows}
use Rattle.tp_rule.specs.Tables.{table_limits}
use Rattle.tp_rule.specs.Views.{IsSameSeat, view_of}
use Rattle.tp_manager.specs.CallSteps.{Steady}
use Rattle.tp_manager.specs.Finds.{HasListed}
use Rattle.tp_manager.specs.Marks.{Remembers}
use Rattle.tp_manager.proofs.manager.Shared.first_headed.Given as goal

abbrev pub invariant-loop-part : goal.invariant-loop-part
invariant-loop-part l = record {
  begins : l.first ≡ l.part * l.rows;
  inside : l.from < part_rows (table_limits l.self.words);
  same : IsSameSeat l.initial.seat l.seat;
  steady : Steady (table_limits l.self.words) (view_of l.seat);
  remembers : Remembers 0 (view_of l.seat) l.lows;
  listed : (row : ℕ) → (l.from ≤ row) × (l.first ≤ row) → (row ≡ l.from) ⊎ (row ≡ l.first) → HasListed (table_limits l.self.words) l.part l.from row l.lows (view_of l.initial.seat) (view_of l.seat);
}
