use Rattle.std.proofs.Common.{◌≡◌, ◌+◌, ◌≤◌}
use Rattle.tp_wire.specs.Heard.{ReadsLine, Tells}
use Rattle.tp_wire.specs.declared.reading.TheConstants.{MAX_ASKED}
use Rattle.tp_wire.specs.Reading.{room, to_come}
use Rattle.tp_wire.proofs.SpendLemmas.{Gave}
use Rattle.tp_wire.proofs.reading.Lines.next.Given as goal

-- what was read of the line, and what was told before
abbrev pub invariant-loop-read : goal.invariant-loop-read
invariant-loop-read g l = record {
  ready : g.W.Wire.ready l.wire;
  asked : g.W.Wire.asked l.wire + l.self.left ≡ g.W.Wire.asked l.fn.wire + l.fn.self.left;
  left : l.self.left + l._read ≤ MAX_ASKED;
  room : room l.self ≤ room l.fn.self;
  read : ReadsLine (to_come l.fn.self (g.W.Wire.rest l.fn.wire)) (to_come l.self (g.W.Wire.rest l.wire)) l.self.line.items;
  gave : Gave 0 l.fn.self (g.W.Wire.rest l.fn.wire) l.self (g.W.Wire.rest l.wire);
  told : Tells (g.W.Wire.contents l.fn.wire) (g.W.Wire.contents l.wire) l.self.answers.items l.fn.self.answers.items;
}
