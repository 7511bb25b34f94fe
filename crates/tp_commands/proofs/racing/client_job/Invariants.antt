use Rattle.std.proofs.Common.{◌≡◌, length, replicate}
use Rattle.tp_commands.proofs.racing.client_job.Given as goal

abbrev pub invariant-loop-i : goal.invariant-loop-i
invariant-loop-i l = record {
  all : l.bodies.items ≡ replicate l._i l.body;
  many : length l.bodies.items ≡ l._i;
}
