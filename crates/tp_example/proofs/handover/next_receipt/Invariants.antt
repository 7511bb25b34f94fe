use Rattle.std.proofs.Common.{◌≡◌}
use Rattle.rtrb.specs.Ring.{received}
use Rattle.tp_example.proofs.handover.next_receipt.Given as goal

abbrev pub invariant-loop : goal.invariant-loop
invariant-loop l = received l.ring ≡ received l.initial.ring
