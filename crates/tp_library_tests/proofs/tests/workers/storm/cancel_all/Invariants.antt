use Rattle.tp_workers.specs.Free.{IsFreePass}
use Rattle.tp_library_tests.proofs.tests.workers.storm.cancel_all.Given as goal

abbrev pub invariant-loop-root : goal.invariant-loop-root
invariant-loop-root l = IsFreePass l.manager l.pass
