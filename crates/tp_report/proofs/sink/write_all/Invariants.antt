use Rattle.std.proofs.Common.{length}
use Rattle.tp_report.specs.Written.{IsWrittenUpTo}
use Rattle.tp_report.proofs.sink.write_all.Given as goal

abbrev pub invariant-loop-rest : goal.invariant-loop-rest
invariant-loop-rest g l = IsWrittenUpTo (g.S.Sink.contents l.fn.sink) (g.S.Sink.contents l.sink) l.bytes l.rest

abbrev pub decreases-loop-rest : goal.decreases-loop-rest
decreases-loop-rest g l = length l.rest
