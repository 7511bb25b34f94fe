use Rattle.std.proofs.Common.{◌≡◌, ◌++◌, ◌≤◌, length, take}
use Rattle.tp_kept.specs.Lines.{IsWhole}
use Rattle.tp_session.specs.Session.{lines_step}
use Rattle.tp_wire.specs.Heard.{heard}
use Rattle.tp_kept.proofs.leading.restore.Given as goal

-- those that were performed, and the rest
abbrev pub invariant-loop-number : goal.invariant-loop-number
invariant-loop-number l = record {
  whole : IsWhole l.rest;
  few : l.number ≤ length (heard l.lines);
  parts : heard l.lines ≡ take l.number (heard l.lines) ++ heard l.rest;
  left : l.session ≡ (lines_step 0 (take l.number (heard l.lines)) l.fn.session).1;
  told : l.told.items ≡ (lines_step 0 (take l.number (heard l.lines)) l.fn.session).0;
}
