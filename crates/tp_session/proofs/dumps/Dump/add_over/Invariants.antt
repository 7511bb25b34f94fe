use Rattle.std.proofs.Common.{◌≡◌, ◌≤◌, length, map, take}
use Rattle.tp_session.specs.Dumps.{and_lines, over_line}
use Rattle.tp_session.proofs.dumps.Dump.add_over.Given as goal

abbrev pub invariant-loop-k : goal.invariant-loop-k
invariant-loop-k l = record {
  within : l.k ≤ length l.store.ended;
  told : l.self ≡ and_lines (map over_line (take l.k l.store.ended)) l.fn.self;
}
