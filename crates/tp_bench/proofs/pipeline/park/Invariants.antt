use Rattle.std.proofs.Common.{◌≡◌, None}
use Rattle.tp_manager.specs.Shown.{IsKeptBy, IsOf}
use Rattle.tp_bench.proofs.pipeline.park.Given as goal

abbrev pub invariant-loop-i : goal.invariant-loop-i
invariant-loop-i l = IsKeptBy l.manager l.keeper × IsOf l.manager l.own × (l.own.open_unit ≡ None)
