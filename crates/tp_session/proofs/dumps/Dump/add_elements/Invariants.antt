use Rattle.std.proofs.Common.{◌≡◌, map, take}
use Rattle.tp_session.specs.Dumps.{and_lines, element_line}
use Rattle.tp_session.proofs.dumps.Dump.add_elements.Given as goal

abbrev pub invariant-loop-id : goal.invariant-loop-id
invariant-loop-id l = l.self ≡ and_lines (map element_line (take l.id-index l.elements)) l.fn.self
