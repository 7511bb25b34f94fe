use Rattle.std.proofs.Common.{◌≡◌, [], List, ℕ, drop, map, ◌∙◌, ap, refl, arith, Bor, length}
use Rattle.std.proofs.lemmas.List.{drop_more, drop_all}
use Rattle.tp_script.specs.Text.{lines}
use Rattle.tp_script.specs.Whole.{lines_from, no_lines}
use Rattle.tp_script.specs.Script.{script_view}
use Rattle.tp_script.proofs.LinesLemmas.{lines_go_on, lines_end, lines_done, script_is, script_past}
use Rattle.tp_script.proofs.parse.parse.Goals as goal

pub returns-then-bytes-gt-MAX_SCRIPT_BYTES-clause-script : goal.returns-then-bytes-gt-MAX_SCRIPT_BYTES-clause-script
returns-then-bytes-gt-MAX_SCRIPT_BYTES-clause-script c = rw c.at_line.ensures (script_past c.args.bytes.now (omega arith))

pub loop-text-init : goal.loop-text-init
loop-text-init c = (rw (c.deref-text-items.ensures.value, c.in_ok-lines.ensures.lines, c.new-script.ensures) refl, refl)

pub returns-in-Err-clause-script : goal.returns-in-Err-clause-script
returns-in-Err-clause-script c =
    let next = ap (map {A = Bor (List ℕ)} {B = List ℕ} (λ x. x.now)) (drop_more c.deref-text-items.result.now c.loop-text.text-index record { ref_ptr = (0, 0); now = [] } c.loop-text-test.true) in
    rw c.at_line-in-Err.ensures (lines_end c.loop-text.line _ _ (script_view c.loop-text.script) c.in-Err.error (lines_from 1 (lines c.args.bytes.now) no_lines) _ (script_is c.args.bytes.now (omega arith)) c.in-Err.ensures (rw next at c.loop-text.invariant.0))

pub overflow_add-line : goal.overflow_add-line
overflow_add-line c = omega (arith, c.loop-text.invariant.1, c.loop-text-test.true, ap length c.deref-text-items.ensures.value, c.in_ok-lines.ensures.few, c.in_ok-lines.lines.ok.0, c.if-bytes-gt-MAX_SCRIPT_BYTES.false)

pub loop-text-preserved : goal.loop-text-preserved
loop-text-preserved c =
    let next = ap (map {A = Bor (List ℕ)} {B = List ℕ} (λ x. x.now)) (drop_more c.deref-text-items.result.now c.loop-text.text-index record { ref_ptr = (0, 0); now = [] } c.loop-text-test.true) in
    (lines_go_on c.loop-text.line _ _ (script_view c.loop-text.script) (script_view c.line.new.self) (lines_from 1 (lines c.args.bytes.now) no_lines) c.in-Ok.ensures (rw next at c.loop-text.invariant.0), omega (arith, c.loop-text.invariant.1))

pub returns-clause-script : goal.returns-clause-script
returns-clause-script c =
    let none : map (λ x. x.now) (drop c.loop-text.text-index c.deref-text-items.result.now) ≡ [] = ap (map (λ x. x.now)) (drop_all c.loop-text.text-index c.deref-text-items.result.now (omega arith)) in
    script_is c.args.bytes.now (omega arith) ∙ lines_done c.loop-text.line (script_view c.loop-text.script) (lines_from 1 (lines c.args.bytes.now) no_lines) (rw none at c.loop-text.invariant.0)
