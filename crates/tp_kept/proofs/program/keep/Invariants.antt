use Rattle.std.proofs.Common.{◌≡◌, ◌+◌}
use Rattle.tp_kept.specs.Kept.{IsReady, coming, talk}
use Rattle.tp_kept.proofs.ProgramLemmas.{TellsLeft}
use Rattle.tp_kept.proofs.program.keep.Given as goal

-- what is written so far
abbrev pub invariant-loop-read : goal.invariant-loop-read
invariant-loop-read g l = record {
  ready : IsReady g.D.Device.seen g.D.Device.may_leave l.kept;
  asked : g.R.Source.asked l.reader ≡ g.R.Source.asked l.fn.reader + l.read;
  told : TellsLeft l.fn.cut l.fn.kept.counted (coming l.fn.kept.line.items (g.R.Source.rest l.fn.reader)) (talk l.fn.kept) (coming l.kept.line.items (g.R.Source.rest l.reader)) (talk l.kept) (g.W.Sink.contents l.fn.writer) (g.W.Sink.contents l.writer);
}
