use Rattle.tp_manager.specs.Shown.{IsKeptBy}
use Rattle.tp_bench.specs.Pipelines.{IsFreeRole}
use Rattle.tp_bench.proofs.pipeline.turns_of.Given as goal

abbrev pub invariant-loop-i : goal.invariant-loop-i
invariant-loop-i l = IsKeptBy l.manager l.keeper × IsFreeRole l.manager l.server
