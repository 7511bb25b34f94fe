use Rattle.std.proofs.Common.{◌≡◌, ℕ, [], List, drop, map, ap, arith, Bor}
use Rattle.std.proofs.lemmas.Result.{err_from_is_err_and}
use Rattle.std.proofs.lemmas.List.{drop_more, drop_all}
use Rattle.tp_lines.specs.Drafts.{drafts_at}
use Rattle.tp_lines.proofs.DraftLemmas.{drafts_go_on, drafts_end, drafts_done}
use Rattle.tp_lines.proofs.drafts.drafts_at.Goals as goal

pub returns-in_err-draft_at : goal.returns-in_err-draft_at
returns-in_err-draft_at c =
    let next = ap (map {A = Bor (List ℕ)} {B = List ℕ} (λ x. x.now)) (drop_more c.args.words.now c.loop-word.word-index record { ref_ptr = (0, 0); now = [] } c.loop-word-test.true) in
    let p = err_from_is_err_and c.from_residual.result c.from_residual.ensures.1 in
    rw (p.1, p.2) (drafts_end c.in_err-draft_at.field-0.0 c.loop-word.drafts.items _ _ (drafts_at (map (λ x. x.now) c.args.words.now)) c.in_err-draft_at.ensures (rw next at c.loop-word.invariant.0))

pub loop-word-preserved : goal.loop-word-preserved
loop-word-preserved c =
    let next = ap (map {A = Bor (List ℕ)} {B = List ℕ} (λ x. x.now)) (drop_more c.args.words.now c.loop-word.word-index record { ref_ptr = (0, 0); now = [] } c.loop-word-test.true) in
    (rw c.push.ensures.items (drafts_go_on c.loop-word.drafts.items _ _ c.in_ok-draft_at.field-0 (drafts_at (map (λ x. x.now) c.args.words.now)) c.in_ok-draft_at.ensures (rw next at c.loop-word.invariant.0)), omega (arith, c.push.ensures.len, c.loop-word.invariant.1))

pub returns : goal.returns
returns c =
    let none : map (λ x. x.now) (drop c.loop-word.word-index c.args.words.now) ≡ [] = ap (map (λ x. x.now)) (drop_all c.loop-word.word-index c.args.words.now (omega arith)) in
    drafts_done c.loop-word.drafts.items (drafts_at (map (λ x. x.now) c.args.words.now)) (rw none at c.loop-word.invariant.0)
