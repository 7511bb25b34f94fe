use Rattle.std.proofs.Common.{◌-◌, ◌*◌, ◌≤◌}
use Rattle.tp_model.specs.Steps.{rows_of}
use Rattle.tp_rule.specs.Tables.{table_limits}
use Rattle.tp_rule.specs.Views.{IsSameSeat, view_of}
use Rattle.tp_manager.specs.Bounds.{look_steps}
use Rattle.tp_manager.specs.Together.{HasCounted, IsWithin}
use Rattle.tp_manager.specs.CallSteps.{Looked}
use Rattle.tp_manager.proofs.manager.Shared.count_rows.Given as goal

abbrev pub invariant-loop-row : goal.invariant-loop-row
invariant-loop-row l = record {
  same : IsSameSeat l.initial.seat l.seat;
  inside : l.row ≤ rows_of (table_limits l.self.words);
  looked : Looked (table_limits l.self.words) (l.row * look_steps (table_limits l.self.words)) (view_of l.initial.seat) (view_of l.seat);
  few : IsWithin l.row l.account;
  counted : HasCounted (table_limits l.self.words) l.row (view_of l.initial.seat) (view_of l.seat) l.account;
}

abbrev pub decreases-loop-row : goal.decreases-loop-row
decreases-loop-row l = l.rows - l.row
