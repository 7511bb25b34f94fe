use Rattle.std.proofs.Common.{◌≡◌, None}
use Rattle.tp_manager.specs.Shown.{IsOf}
use Rattle.tp_bench.proofs.families.grow_all.Given as goal

abbrev pub invariant-loop-root : goal.invariant-loop-root
invariant-loop-root l = record { own : IsOf l.manager l.server; free : l.server.open_unit ≡ None }
