use Rattle.std.proofs.Common.{◌≡◌, None}
use Rattle.tp_manager.specs.Shown.{IsOf}
use Rattle.tp_bench.proofs.calls.bare_turns_next.Given as goal

abbrev pub invariant-loop-i : goal.invariant-loop-i
invariant-loop-i l = record { own : IsOf l.manager l.pass; free : l.pass.open_unit ≡ None }
