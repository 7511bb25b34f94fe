use Rattle.std.proofs.Common.{replicate}
use Rattle.tp_manager.proofs.Families.RowBits.{zeros, zeros_empty, zeros_summed}
use Rattle.tp_manager.proofs.row_set.RowSet.new.Goals as goal

pub invariant_of-result : goal.invariant_of-result
invariant_of-result c = zeros_summed (replicate 192 0) (replicate 3 0) (zeros 192) (zeros 3)

pub returns : goal.returns
returns c = zeros_empty (replicate 192 0) (zeros 192)
