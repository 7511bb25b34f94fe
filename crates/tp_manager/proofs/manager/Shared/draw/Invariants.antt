use Rattle.std.proofs.Common.{◌≡◌, ◌-◌, ◌≤◌}
use Rattle.tp_rule.specs.Tables.{table_limits}
use Rattle.tp_rule.specs.Views.{IsSameSeat, view_of}
use Rattle.tp_manager.specs.CallSteps.{Tried}
use Rattle.tp_manager.specs.BetweenCalls.{RemembersDrawn}
use Rattle.tp_manager.proofs.manager.Shared.draw.Given as goal

abbrev pub invariant-loop-run : goal.invariant-loop-run
invariant-loop-run l = record {
  same : IsSameSeat l.initial.seat l.seat;
  kept : l.run ≡ record l.initial.run { drawn = l.run.drawn };
  rises : l.initial.run.drawn ≤ l.run.drawn;
  drawn : RemembersDrawn (view_of l.seat) l.run.drawn;
  tried : Tried (table_limits l.self.words) (l.run.drawn - l.initial.run.drawn) (view_of l.initial.seat) (view_of l.seat);
}

abbrev pub decreases-loop-run : goal.decreases-loop-run
decreases-loop-run l = (table_limits l.self.words).spare - l.run.drawn
