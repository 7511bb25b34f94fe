-- The account of what all have seen, counted row by row.
use Rattle.std.proofs.Common.{◌≡◌, ℕ, zero, suc, ◌+◌, Option, Some, None, refl, sym, ◌∙◌, ap, arith}
use Rattle.tp_model.specs.declared.types.Account.{Account}
use Rattle.tp_model.specs.declared.types.Counts.{Counts}
use Rattle.tp_model.specs.declared.types.Element.{Element}
use Rattle.tp_model.specs.Accounts.{elements_below, one_more}
use Rattle.tp_model.specs.Counts.{counts_among}
use Rattle.tp_model.specs.History.{element_of, status_of}
use Rattle.tp_model.specs.Steps.{rows_of}
use Rattle.tp_model.proofs.RowTallies.{counts_by_rows, row_empty, row_full}
use Rattle.tp_model.proofs.Tallies.{counts_last}
use Rattle.tp_plain.specs.Computed.{read_found}
use Rattle.tp_plain.specs.OneThread.{State}
use Rattle.tp_reference.specs.PlainClient.{count_read, counts_below}
use Rattle.tp_reference.proofs.ListingLemmas.{counts_more, counts_none}
use Rattle.tp_rollover.specs.Thread.{thread_of}
use Rattle.tp_exact.specs.Finals.{ExactAccount}

module _ (s : State) where
  -- what is counted of the rows below n
  abbrev so_far : ℕ → Counts
  so_far n = counts_among s.limits.attempts s.history (elements_below s.history n)

  one_row : (n : ℕ) (c : Counts) (o : Option Element) → element_of s.history n ≡ o → c ≡ so_far n → count_read (read_found s o) c ≡ so_far (n + 1)
  one_row n c None is same = same ∙ ap (counts_among s.limits.attempts s.history) (sym (row_empty s.history n is))
  one_row n c (Some e) is same =
      ap (one_more (status_of s.limits.attempts s.history e.id)) same
      ∙ (sym (counts_last s.limits.attempts s.history (elements_below s.history n) e) ∙ ap (counts_among s.limits.attempts s.history) (sym (row_full s.history n e is)))

  rows_counted : (n : ℕ) → counts_below s n ≡ so_far n
  rows_counted zero = counts_none s
  rows_counted (suc n) =
      let more : suc n ≡ n + 1 = omega arith in
      ap (counts_below s) more ∙ (counts_more s n ∙ (one_row n (counts_below s n) (element_of s.history n) refl (rows_counted n) ∙ ap so_far (sym more)))

pub exact_account : ExactAccount
exact_account l keeper passes h together =
    sym (rows_counted (thread_of l passes h) (rows_of l) ∙ ap (λ (a : Account). a.total) (counts_by_rows l h together.legal))
