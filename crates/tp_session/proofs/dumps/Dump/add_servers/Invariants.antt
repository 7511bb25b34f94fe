use Rattle.std.proofs.Common.{◌≡◌, take}
use Rattle.std.specs.List.{flat_map}
use Rattle.tp_session.specs.Dumps.{and_lines, server_lines}
use Rattle.tp_session.proofs.dumps.Dump.add_servers.Given as goal

abbrev pub invariant-loop-server : goal.invariant-loop-server
invariant-loop-server l = l.self ≡ and_lines (flat_map server_lines (take l.server-index l.servers)) l.fn.self
