use Rattle.std.proofs.Common.{◌≡◌, ℕ, [], List, drop, map, ap, arith, Bor}
use Rattle.std.proofs.lemmas.Result.{err_from_is_err_and}
use Rattle.std.proofs.lemmas.List.{drop_more, drop_all}
use Rattle.tp_script.specs.LineWords.{outputs_at}
use Rattle.tp_script.proofs.GrammarLemmas.{outputs_go_on, outputs_end, outputs_done}
use Rattle.tp_lines.proofs.servers.outputs_at.Goals as goal

pub returns-in_err-output_at : goal.returns-in_err-output_at
returns-in_err-output_at c =
    let next = ap (map {A = Bor (List ℕ)} {B = List ℕ} (λ x. x.now)) (drop_more c.args.words.now c.loop-word.word-index record { ref_ptr = (0, 0); now = [] } c.loop-word-test.true) in
    let p = err_from_is_err_and c.from_residual.result c.from_residual.ensures.1 in
    rw (p.1, p.2) (outputs_end c.in_err-output_at.field-0.0 c.loop-word.outputs.items _ _ (outputs_at (map (λ x. x.now) c.args.words.now)) c.in_err-output_at.ensures (rw next at c.loop-word.invariant.0))

pub loop-word-preserved : goal.loop-word-preserved
loop-word-preserved c =
    let next = ap (map {A = Bor (List ℕ)} {B = List ℕ} (λ x. x.now)) (drop_more c.args.words.now c.loop-word.word-index record { ref_ptr = (0, 0); now = [] } c.loop-word-test.true) in
    (rw c.push.ensures.items (outputs_go_on c.loop-word.outputs.items _ _ c.in_ok-output_at.field-0 (outputs_at (map (λ x. x.now) c.args.words.now)) c.in_ok-output_at.ensures (rw next at c.loop-word.invariant.0)), omega (arith, c.push.ensures.len, c.loop-word.invariant.1))

pub returns : goal.returns
returns c =
    let none : map (λ x. x.now) (drop c.loop-word.word-index c.args.words.now) ≡ [] = ap (map (λ x. x.now)) (drop_all c.loop-word.word-index c.args.words.now (omega arith)) in
    outputs_done c.loop-word.outputs.items (outputs_at (map (λ x. x.now) c.args.words.now)) (rw none at c.loop-word.invariant.0)
