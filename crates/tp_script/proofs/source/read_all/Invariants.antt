use Rattle.std.proofs.Common.{vec_capacity, vec_len}
use Rattle.tp_script.proofs.Devices.{ReadSoFar}
use Rattle.tp_script.proofs.source.read_all.Given as goal

abbrev pub invariant-loop : goal.invariant-loop
invariant-loop g l = ReadSoFar (g.S.Source.rest l.fn.source) (g.S.Source.rest l.source) l.read.items (vec_len l.read) (vec_capacity l.read) (g.S.Source.asked l.fn.source) (g.S.Source.asked l.source) l.counter
