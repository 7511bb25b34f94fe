use Rattle.tp_manager.specs.Shown.{IsOf}
use Rattle.tp_library_tests.proofs.tests.workers.storm.submit_all.Given as goal

abbrev pub invariant-loop-root : goal.invariant-loop-root
invariant-loop-root g l = IsOf l.manager l.client
