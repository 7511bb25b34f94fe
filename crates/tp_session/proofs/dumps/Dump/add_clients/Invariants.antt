use Rattle.std.proofs.Common.{◌≡◌, map}
use Rattle.std.specs.Map.Iter.{deref_pair}
use Rattle.tp_session.specs.Dumps.{and_lines, client_line}
use Rattle.tp_session.proofs.dumps.Dump.add_clients.Given as goal

abbrev pub invariant-loop-name : goal.invariant-loop-name
invariant-loop-name l = l.self ≡ and_lines (map client_line (map deref_pair l.yielded)) l.fn.self
