use Rattle.std.proofs.Common.{◌+◌, slice_index, subst, sym, w64, arith}
use Rattle.std.specs.Int.{trailing_zeros}
use Rattle.tp_manager.specs.RowSets.{IsLeast}
use Rattle.tp_manager.proofs.Families.RowBits.{lowest_has}
use Rattle.tp_manager.proofs.row_set.least_bit.Goals as goal

pub returns-then-word-ne0 : goal.returns-then-word-ne0
returns-then-word-ne0 c =
    let xs = c.args.words.now in let w = c.loop-word.word-index in let some = c.if-word-ne0.true in
    subst (λ z. IsLeast xs (z + trailing_zeros w64 (slice_index xs w))) (sym c.loop-word.invariant.0)
    (lowest_has xs w (omega arith) ((c.type_inv.words w).fits) c.loop-word.invariant.1).1
