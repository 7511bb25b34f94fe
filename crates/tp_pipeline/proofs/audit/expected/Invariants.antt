use Rattle.std.proofs.Common.{◌≡◌}
use Rattle.tp_pipeline.specs.Audits.{passed, takings_due}
use Rattle.tp_pipeline.proofs.audit.expected.Given as goal

abbrev pub invariant-loop-number : goal.invariant-loop-number
invariant-loop-number l = record {
  counted : l.count ≡ passed l.ceiling l.number;
  taken : l.amounts ≡ takings_due l.ceiling l.number;
}
