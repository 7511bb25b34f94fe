use Rattle.std.proofs.Common.{◌≡◌, length}
use Rattle.tp_library_tests.proofs.tests.workers.client.Given as goal

abbrev pub invariant-loop-i : goal.invariant-loop-i
invariant-loop-i g l = length l.bodies.items ≡ l.i
