use Rattle.std.proofs.Common.{◌≡◌}
use Rattle.tp_session.specs.Dumps.{and_lines, settled_below}
use Rattle.tp_session.proofs.dumps.Dump.add_all_settled.Given as goal

abbrev pub invariant-loop-stage : goal.invariant-loop-stage
invariant-loop-stage l = l.self ≡ and_lines (settled_below l.stage l.store.tally.stages) l.fn.self
