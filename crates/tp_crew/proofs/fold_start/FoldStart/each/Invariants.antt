use Rattle.std.proofs.Common.{◌≡◌, drop, length, take, zip}
use Rattle.tp_crew.specs.FoldStarts.{begun}
use Rattle.tp_crew.proofs.fold_start.FoldStart.each.Given as goal

abbrev pub invariant-loop-k : goal.invariant-loop-k
invariant-loop-k g l = record {
  begun_are : begun l.starts.items ≡ take l.k (zip (drop 1 l.passes) l.boxes);
  count : length l.starts.items ≡ l.k;
}
