use Rattle.std.proofs.Common.{◌≡◌, ◌+◌, ◌≤◌, ◌++◌}
use Rattle.tp_wire.specs.Heard.{Tells}
use Rattle.tp_wire.specs.Reading.{Spends, room, to_come}
use Rattle.tp_session.specs.Conversed.{SoFar}
use Rattle.tp_session.proofs.conversing.attend.Given as goal

-- the lines so far
abbrev pub invariant-loop-number : goal.invariant-loop-number
invariant-loop-number g l = record {
  ready : g.W.Wire.ready l.wire;
  asked : g.W.Wire.asked l.wire + l.lines.left ≡ g.W.Wire.asked l.fn.wire + l.fn.lines.left;
  room : l.number + room l.lines ≤ l.past + room l.fn.lines;
  spends : Spends 0 l.fn.lines (g.W.Wire.rest l.fn.wire) l.lines (g.W.Wire.rest l.wire);
  told : SoFar l.past (to_come l.fn.lines (g.W.Wire.rest l.fn.wire)) l.fn.session l.number (to_come l.lines (g.W.Wire.rest l.wire)) l.session
      (λ text. Tells (g.W.Wire.contents l.fn.wire) (g.W.Wire.contents l.wire) l.lines.answers.items (l.fn.lines.answers.items ++ text));
}
