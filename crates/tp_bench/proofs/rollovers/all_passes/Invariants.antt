use Rattle.std.proofs.Common.{All}
use Rattle.tp_manager.specs.Shown.{IsKeptBy, IsOf}
use Rattle.tp_bench.proofs.rollovers.all_passes.Given as goal

abbrev pub invariant-loop-part : goal.invariant-loop-part
invariant-loop-part l = record {
  kept : IsKeptBy l.manager l.keeper;
  own : All (IsOf l.manager) l.passes.items;
}
