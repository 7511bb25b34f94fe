use Rattle.std.proofs.Common.{◌≡◌, All, length}
use Rattle.tp_manager.specs.Shown.{IsOf}
use Rattle.tp_bench.proofs.rollovers.use_up_all.Given as goal

abbrev pub invariant-loop-place : goal.invariant-loop-place
invariant-loop-place l = record {
  own : All (IsOf l.manager) l.passes;
  length : length l.passes ≡ length l.fn.passes;
}
