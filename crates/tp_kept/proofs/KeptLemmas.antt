-- A kept session and its journal.
use Rattle.std.proofs.Common.{◌≡◌, ◌∙◌, ℕ, ◌<◌, ◌≤◌, ◌+◌, ◌^◌, All, true, false, List, [], ◌∷◌, ◌++◌, refl, sym, ap, subst, arith, append-nil, drop, inl, inr, length, length-append}
use Rattle.std.specs.Prelude.{◌⊎◌, decimal}
use Rattle.tp_journal.specs.Device.{LeavesOnly}
use Rattle.tp_journal.specs.Journal.{IsJournalOpen, IsJournalSettled}
use Rattle.tp_journal.specs.Text.{HasTorn, IsAtRest, IsBatch, end_line, first_line, sealed_batch, text_of, with_batch}
use Rattle.tp_journal.specs.declared.journal.Journal.{Journal}
use Rattle.tp_journal.proofs.Crashes.{keeps_batches, keeps_text}
use Rattle.tp_journal.proofs.Kept.{appended-sealed}
use Rattle.tp_kept.specs.Kept.{IsKept, KeepsLife, lines_in}
use Rattle.tp_kept.specs.Lines.{AreWholeLines, IsTheirs, IsWhole}
use Rattle.tp_kept.specs.Lives.{Life, StandsFor, goes_on}
use Rattle.tp_kept.proofs.LinesLemmas.{theirs_plain, whole_then}
use Rattle.tp_kept.proofs.LivesLemmas.{goes_none, goes_then, stands_then}
use Rattle.tp_kept.proofs.OwnLemmas.{lines_with}

module _ {D : Type 0} (seen : D → List ℕ) (may_leave : D → List ℕ → Type 0) where
  -- what stands for a life stands for one that no more lines have led to
  stays : (lines : List ℕ) (l : Life) → StandsFor lines l → (more : List ℕ) × IsWhole more × StandsFor lines (goes_on more l)
  stays lines l stands = ([], inl refl, subst (StandsFor lines) (sym (goes_none l)) stands)

  settled_keeps : (j : Journal D) (l : Life) → IsJournalSettled seen may_leave j → StandsFor (lines_in (text_of (seen j.device))) l → KeepsLife (may_leave j.device) l
  settled_keeps j l settled stands file recovered left is =
      let text = text_of (seen j.device) in
      let same : file ≡ seen j.device = settled.stands.durable file left in
      let whole : recovered ≡ text = keeps_text text file recovered settled.stands.is_sealed (subst (IsAtRest text) (sym same) settled.stands.at_rest) is in
      stays (lines_in recovered) l (subst (λ t. StandsFor (lines_in t) l) (sym whole) stands)

  pub kept_new : (j : Journal D) (l : Life) → IsJournalSettled seen may_leave j → j.poisoned ≡ false → StandsFor (lines_in (text_of (seen j.device))) l → IsKept seen may_leave j l
  kept_new j l settled fine stands = record { settled = settled; fine = fine; stands = stands; keeps = settled_keeps j l settled stands }

  -- a life some lines on is kept: so the one before is
  pub keeps_before : (device : D) (l : Life) (more : List ℕ) → IsWhole more → KeepsLife (may_leave device) (goes_on more l) → KeepsLife (may_leave device) l
  keeps_before device l more whole keeps file recovered left is =
      let found = keeps file recovered left is in
      (more ++ found.0, whole_then more found.0 whole found.1, subst (StandsFor (lines_in recovered)) (sym (goes_then more found.0 l whole)) found.2)

  module _ (j j' : Journal D) (l : Life) (was : IsKept seen may_leave j l) (now : IsJournalOpen seen may_leave j') where
    abbrev text : List ℕ
    text = text_of (seen j.device)

    -- a batch was appended
    pub kept_appended : (batch : List ℕ) → j'.poisoned ≡ false → text_of (seen j'.device) ≡ with_batch text batch → IsBatch batch → All IsTheirs batch → (j'.device ≡ j.device) ⊎ (length (with_batch text batch) < 2 ^ 64) → IsKept seen may_leave j' (goes_on batch l)
    kept_appended batch fine is batch_is theirs (inl same) = absurd (omega (arith, ap length is, ap (λ d. length (text_of (seen d))) same, length-append (text ++ batch) (end_line (decimal (length text)) (text ++ batch)), length-append text batch, some))
      where
        some : 1 ≤ length batch
        some = omega (arith, ap length batch_is.ends, length-append batch_is.front (10 ∷ []))
    kept_appended batch fine is batch_is theirs (inr short) =
        let added : lines_in (text_of (seen j'.device)) ≡ lines_in text ++ batch =
        ap lines_in is ∙ lines_with text batch was.settled.stands.is_sealed batch_is (omega (arith, short, length-append (text ++ batch) (end_line (decimal (length text)) (text ++ batch)))) in
        kept_new j' (goes_on batch l) (now fine) fine (subst (λ ls. StandsFor ls (goes_on batch l)) (sym added) (stands_then (lines_in text) batch l theirs (inr (batch_is.front, batch_is.ends)) was.stands))

    module _ (moment : D → ℕ) (left_since : D → ℕ → List ℕ → Type 0) (counts : (file : D) (t : ℕ) (c : List ℕ) → t ≤ moment file → may_leave file c → left_since file t c) (batch : List ℕ) (batch_is : IsBatch batch) where
      -- it may not have been
      pub keeps_torn : LeavesOnly moment left_since j.device j'.device (HasTorn text (sealed_batch text batch)) → All IsTheirs batch → (j'.device ≡ j.device) ⊎ (length (with_batch text batch) < 2 ^ 64) → KeepsLife (may_leave j'.device) l
      keeps_torn leaves theirs (inl same) = subst (λ d. KeepsLife (may_leave d) l) (sym same) was.keeps
      keeps_torn leaves theirs (inr short) = λ file recovered left is.
          let torn = leaves.each file (counts j'.device (moment j.device) file leaves.later left) in
          let less : length (text ++ batch) < 2 ^ 64 = omega (arith, short, length-append (text ++ batch) (end_line (decimal (length text)) (text ++ batch))) in
          elim (keeps_batches text batch file recovered short was.settled.stands.at_rest.text_is was.settled.stands.is_sealed batch_is torn is) [
            | inl old ↦ stays (lines_in recovered) l (subst (λ t. StandsFor (lines_in t) l) (sym old) was.stands)
            | inr new ↦ (batch, inr (batch_is.front, batch_is.ends), subst (λ ls. StandsFor ls (goes_on batch l)) (sym (ap lines_in new ∙ lines_with text batch was.settled.stands.is_sealed batch_is less)) (stands_then (lines_in text) batch l theirs (inr (batch_is.front, batch_is.ends)) was.stands))
          ]

      -- other lines may have taken the place of all
      pub keeps_tried : LeavesOnly moment left_since j.device j'.device (λ c. IsAtRest text c ⊎ IsAtRest (with_batch first_line batch) c) → length (first_line ++ batch) < 2 ^ 64 → StandsFor batch l → KeepsLife (may_leave j'.device) l
      keeps_tried leaves short stands file recovered left is =
          let rests = leaves.each file (counts j'.device (moment j.device) file leaves.later left) in
          elim rests [
            | inl old ↦ stays (lines_in recovered) l (subst (λ t. StandsFor (lines_in t) l) (sym (keeps_text text file recovered was.settled.stands.is_sealed old is)) was.stands)
            | inr new ↦ stays (lines_in recovered) l (subst (λ ls. StandsFor ls l) (sym (ap lines_in (keeps_text (with_batch first_line batch) file recovered (appended-sealed first_line batch short (inl refl)) new is) ∙ lines_with first_line batch (inl refl) batch_is short)) stands)
          ]

    -- they did
    pub kept_replaced : (batch : List ℕ) → j'.poisoned ≡ false → text_of (seen j'.device) ≡ with_batch first_line batch → IsBatch batch → length (first_line ++ batch) < 2 ^ 64 → StandsFor batch l → IsKept seen may_leave j' l
    kept_replaced batch fine is batch_is short stands =
        kept_new j' l (now fine) fine (subst (λ ls. StandsFor ls l) (sym (ap lines_in is ∙ lines_with first_line batch (inl refl) batch_is short)) stands)

-- lines that have ended are a batch, where there are some
pub batch_of : (lines : List ℕ) → AreWholeLines lines → 1 ≤ length lines → IsBatch lines
batch_of lines (theirs, inl none) some = absurd (omega (arith, ap length none, some))
batch_of lines (theirs, inr t) some = record { plain = theirs_plain lines theirs; front = t.0; ends = t.1 }
