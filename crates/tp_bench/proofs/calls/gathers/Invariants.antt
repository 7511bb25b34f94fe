use Rattle.std.proofs.Common.{All}
use Rattle.tp_manager.specs.Shown.{IsKeptBy, IsOf}
use Rattle.tp_manager.specs.Accounts.{AreAll}
use Rattle.tp_bench.proofs.calls.gathers.Given as goal

abbrev pub invariant-loop-i : goal.invariant-loop-i
invariant-loop-i l = record { kept : IsKeptBy l.manager l.keeper; own : All (IsOf l.manager) l.passes; all : AreAll l.keeper l.passes }
