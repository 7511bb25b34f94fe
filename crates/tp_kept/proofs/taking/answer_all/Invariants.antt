use Rattle.std.proofs.Common.{◌≡◌, ◌+◌, ◌<◌, ◌^◌, ◌++◌, length}
use Rattle.tp_kept.specs.Lines.{IsWhole}
use Rattle.tp_session.specs.Conversed.{step_of}
use Rattle.tp_wire.specs.Heard.{heard}
use Rattle.tp_kept.proofs.taking.answer_all.Given as goal

-- what was answered, and what the rest will be
abbrev pub invariant-loop-line : goal.invariant-loop-line
invariant-loop-line l = record {
  whole : IsWhole l.rest;
  few : l.counted + length l.rest < 2 ^ 64;
  counted : l.fn.counted + length (heard l.lines) ≡ l.counted + length (heard l.rest);
  left : (step_of l.fn.counted l.lines l.fn.session).1 ≡ (step_of l.counted l.rest l.session).1;
  told : l.fn.answers.items ++ (step_of l.fn.counted l.lines l.fn.session).0 ≡ l.answers.items ++ (step_of l.counted l.rest l.session).0;
}

abbrev pub decreases-loop-line : goal.decreases-loop-line
decreases-loop-line l = length l.rest
