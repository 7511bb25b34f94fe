use Rattle.tp_manager.specs.Shown.{IsOf}
use Rattle.tp_library_tests.proofs.tests.workers.clients.read_back.Given as goal

abbrev pub invariant-loop-i : goal.invariant-loop-i
invariant-loop-i l = IsOf l.manager l.pass
