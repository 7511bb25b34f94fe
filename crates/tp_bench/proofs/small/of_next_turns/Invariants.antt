use Rattle.std.proofs.Common.{◌≡◌, None}
use Rattle.tp_manager.specs.Shown.{IsOf}
use Rattle.tp_bench.proofs.small.of_next_turns.Given as goal

abbrev pub invariant-loop-k : goal.invariant-loop-k
invariant-loop-k l = record { own : IsOf l.manager l.server; free : l.server.open_unit ≡ None }
