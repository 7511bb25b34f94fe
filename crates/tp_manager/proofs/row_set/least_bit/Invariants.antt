use Rattle.std.proofs.Common.{◌≡◌, ◌*◌, ◌<◌, ℕ, slice_index}
use Rattle.tp_manager.proofs.row_set.least_bit.Given as goal

abbrev pub invariant-loop-word : goal.invariant-loop-word
invariant-loop-word l = (l.base ≡ l.word-index * 64) × ((j : ℕ) → j < l.word-index → slice_index l.words j ≡ 0)
