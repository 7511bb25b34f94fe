use Rattle.std.proofs.Common.{◌≡◌, ℕ, length}
use Rattle.std.specs.List.{list_all}
use Rattle.tp_kept.specs.Lines.{IsWhole}
use Rattle.tp_session.specs.Asking.{only_asks}
use Rattle.tp_session.specs.Conversed.{step_of}
use Rattle.tp_wire.specs.Heard.{heard}
use Rattle.tp_kept.proofs.taking.all_ask.Given as goal

-- those before the rest only ask
abbrev pub invariant-loop-line : goal.invariant-loop-line
invariant-loop-line l = record {
  whole : IsWhole l.rest;
  is : list_all (λ k. only_asks k l.fn.session) (heard l.lines) ≡ list_all (λ k. only_asks k l.fn.session) (heard l.rest);
  stays : ((past : ℕ) → (step_of past l.rest l.fn.session).1 ≡ l.fn.session) → (past : ℕ) → (step_of past l.lines l.fn.session).1 ≡ l.fn.session;
}

abbrev pub decreases-loop-line : goal.decreases-loop-line
decreases-loop-line l = length l.rest
