use Rattle.std.proofs.Common.{◌≡◌, ◌+◌, ◌≤◌, length}
use Rattle.tp_kept.specs.Lines.{IsWhole}
use Rattle.tp_session.specs.Session.{lines_step}
use Rattle.tp_wire.specs.Heard.{heard}
use Rattle.tp_kept.proofs.leading.perform.Given as goal

-- those that were performed, and those of the rest
abbrev pub invariant-loop-line : goal.invariant-loop-line
invariant-loop-line l = record {
  whole : IsWhole l.rest;
  few : l.many + length l.rest ≤ length l.lines;
  many : length (heard l.lines) ≡ l.many + length (heard l.rest);
  left : (lines_step 0 (heard l.lines) l.fn.session).1 ≡ (lines_step l.many (heard l.rest) l.session).1;
}

abbrev pub decreases-loop-line : goal.decreases-loop-line
decreases-loop-line l = length l.rest
