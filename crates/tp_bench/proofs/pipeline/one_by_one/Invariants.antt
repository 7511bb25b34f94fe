use Rattle.tp_manager.specs.Shown.{IsKeptBy}
use Rattle.tp_bench.specs.Pipelines.{AreRolesReady}
use Rattle.tp_bench.proofs.pipeline.one_by_one.Given as goal

abbrev pub invariant-loop-i : goal.invariant-loop-i
invariant-loop-i l = IsKeptBy l.manager l.keeper × AreRolesReady l.manager l.roles
