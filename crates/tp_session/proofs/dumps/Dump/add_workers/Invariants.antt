use Rattle.std.proofs.Common.{◌≡◌, map}
use Rattle.std.specs.List.{flat_map}
use Rattle.std.specs.Map.Iter.{deref_pair}
use Rattle.tp_session.specs.Dumps.{and_lines, worker_lines}
use Rattle.tp_session.proofs.dumps.Dump.add_workers.Given as goal

abbrev pub invariant-loop-name : goal.invariant-loop-name
invariant-loop-name l = l.self ≡ and_lines (flat_map worker_lines (map deref_pair l.yielded)) l.fn.self
