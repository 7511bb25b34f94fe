-- Sessions go on from their lines.
use Rattle.std.proofs.Common.{◌≡◌, ◌∙◌, ℕ, ◌+◌, List, [], ◌∷◌, ◌++◌, length, sym, ap, append_assoc, arith}
use Rattle.tp_session.specs.Lasting.{GoesOnFromLines}
use Rattle.tp_session.specs.Session.{line_step, lines_step}
use Rattle.tp_session.specs.State.{SessionState}

here : (past : ℕ) (others : List (List ℕ)) (s : SessionState) → lines_step past others s ≡ ([] ++ (lines_step (past + 0) others s).0, (lines_step (past + 0) others s).1)
here past others s = let same : past ≡ past + 0 = omega arith in ap (λ n. lines_step n others s) same

pub goes_on_from_lines : GoesOnFromLines
goes_on_from_lines past [] others s = here past others s
goes_on_from_lines past (l ∷ ls) others s =
    let first = line_step (past + 1) l s in
    let before = lines_step (past + 1) ls first.1 in
    let number : past + 1 + length ls ≡ past + length (l ∷ ls) = omega arith in
    ap (λ t. (first.0 ++ t.0, t.1)) (goes_on_from_lines (past + 1) ls others first.1)
    ∙ ap (λ n. (first.0 ++ (before.0 ++ (lines_step n others before.1).0), (lines_step n others before.1).1)) number
    ∙ ap (λ w. (w, (lines_step (past + length (l ∷ ls)) others before.1).1)) (sym (append_assoc first.0 before.0 (lines_step (past + length (l ∷ ls)) others before.1).0))
