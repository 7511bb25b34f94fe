use Rattle.std.proofs.Common.{drop}
use Rattle.tp_rollover.specs.Checks.{MovedAscend}
use Rattle.tp_rollover.specs.Checks.{AscendFrom}
use Rattle.tp_rollover.proofs.checking.ascend.Given as goal

-- all ascend exactly where what is left goes on ascending
abbrev pub invariant-loop-place : goal.invariant-loop-place
invariant-loop-place l = record {
  all : AscendFrom (λ m. m.old) l.old (drop l.place l.moved) → AscendFrom (λ m. m.new) l.new (drop l.place l.moved) → MovedAscend l.moved;
  left : MovedAscend l.moved → AscendFrom (λ m. m.old) l.old (drop l.place l.moved) × AscendFrom (λ m. m.new) l.new (drop l.place l.moved);
}
