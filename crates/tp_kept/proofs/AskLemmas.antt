-- Lines that only ask, and the empty ones that stand for them.
use Rattle.std.proofs.Common.{◌≡◌, ◌∙◌, ℕ, ◌+◌, ◌&&◌, All, true, false, List, [], ◌∷◌, ◌++◌, ap, sym, append_assoc}
use Rattle.std.specs.List.{list_all}
use Rattle.std.proofs.lemmas.List.Elements.{All-append}
use Rattle.tp_journal.specs.Text.{IsBatch}
use Rattle.tp_kept.specs.Lines.{IsTheirs, empty_lines}
use Rattle.tp_kept.specs.Lives.{Life, goes_on}
use Rattle.tp_session.specs.Asking.{only_asks}
use Rattle.tp_session.specs.Conversed.{step_of}
use Rattle.tp_session.specs.Session.{line_step, lines_step}
use Rattle.tp_session.specs.State.{SessionState}
use Rattle.tp_wire.specs.Heard.{heard}
use Rattle.tp_kept.proofs.LinesLemmas.{theirs_plain}
use Rattle.tp_kept.proofs.LivesLemmas.{goes_empty, goes_then, theirs_empty, whole_empty}

-- ---- one line after another

module _ (s : SessionState) (rest others line : List ℕ) (is : heard rest ≡ line ∷ heard others) where
  pub all_step : only_asks line s ≡ true → list_all (λ k. only_asks k s) (heard rest) ≡ list_all (λ k. only_asks k s) (heard others)
  all_step asks = ap (list_all (λ k. only_asks k s)) is ∙ ap (λ b. b && list_all (λ k. only_asks k s) (heard others)) asks

  pub all_stop : only_asks line s ≡ false → list_all (λ k. only_asks k s) (heard rest) ≡ false
  all_stop asks = ap (list_all (λ k. only_asks k s)) is ∙ ap (λ b. b && list_all (λ k. only_asks k s) (heard others)) asks

  pub stays_step : ((n : ℕ) → (line_step n line s).1 ≡ s) → ((past : ℕ) → (step_of past others s).1 ≡ s) → (past : ℕ) → (step_of past rest s).1 ≡ s
  stays_step one more past =
      ap (λ ls. (lines_step past ls s).1) is ∙ (ap (λ t. (lines_step (past + 1) (heard others) t).1) (one (past + 1)) ∙ more (past + 1))

pub none_stays : (s : SessionState) (lines : List ℕ) → lines ≡ [] → (past : ℕ) → (step_of past lines s).1 ≡ s
none_stays s lines none past = ap (λ l. (step_of past l s).1) none

-- ---- behind empty lines

abbrev pub behind : ℕ → Life → Life
behind n l = record { lines = l.lines + n; session = l.session }

pub batch_behind : (n : ℕ) (lines : List ℕ) → IsBatch lines → All IsTheirs lines → IsBatch (empty_lines n ++ lines)
batch_behind n lines batch theirs = record {
  plain = theirs_plain (empty_lines n ++ lines) (All-append IsTheirs (empty_lines n) lines (theirs_empty n) theirs);
  front = empty_lines n ++ batch.front;
  ends = ap (λ w. empty_lines n ++ w) batch.ends ∙ sym (append_assoc (empty_lines n) batch.front (10 ∷ []));
}

pub theirs_behind : (n : ℕ) (lines : List ℕ) → All IsTheirs lines → All IsTheirs (empty_lines n ++ lines)
theirs_behind n lines theirs = All-append IsTheirs (empty_lines n) lines (theirs_empty n) theirs

-- empty lines lead to where those have led for which they stand
pub goes_behind : (n : ℕ) (lines : List ℕ) (l : Life) → goes_on (empty_lines n ++ lines) l ≡ goes_on lines (behind n l)
goes_behind n lines l = goes_then (empty_lines n) lines l (whole_empty n) ∙ ap (goes_on lines) (goes_empty n l)
