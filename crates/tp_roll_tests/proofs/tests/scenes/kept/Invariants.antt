use Rattle.std.proofs.Common.{All}
use Rattle.tp_manager.specs.Shown.{IsKeptBy, IsOf}
use Rattle.tp_roll_tests.proofs.tests.scenes.kept.Given as goal

abbrev pub invariant-loop-i : goal.invariant-loop-i
invariant-loop-i g l = record {
  keeper : IsKeptBy l.manager l.keeper;
  own : All (IsOf l.manager) l.passes.items;
}
