use Rattle.std.proofs.Common.{take}
use Rattle.std.specs.List.{All}
use Rattle.tp_model.specs.Births.{IsWhole, outputs}
use Rattle.tp_rule.specs.Tables.{table_limits}
use Rattle.tp_rule.specs.Views.{IsSameSeat, view_of}
use Rattle.tp_manager.specs.Drafts.{Wrote}
use Rattle.tp_manager.proofs.manager.Shared.write_all.Given as goal

abbrev pub invariant-loop-i : goal.invariant-loop-i
invariant-loop-i l = record {
  same : IsSameSeat l.initial.seat l.seat;
  whole : All IsWhole (take l.i l.drafts);
  wrote : Wrote (table_limits l.self.words) (outputs l.unit l.root l.first (take l.i l.drafts)) (view_of l.initial.seat) (view_of l.seat);
}
