use Rattle.std.proofs.Common.{◌≡◌}
use Rattle.tp_reference.specs.PlainReport.{ended_below}
use Rattle.tp_reference.proofs.plain_run.PlainRun.end_all.Given as goal

abbrev pub invariant-loop-at : goal.invariant-loop-at
invariant-loop-at l = record {
  ended : l.self.plain ≡ ended_below l.fn.self.plain l.at;
  limits : l.self.plain.limits ≡ l.fn.self.plain.limits;
}
