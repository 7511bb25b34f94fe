use Rattle.std.proofs.Common.{◌≡◌, max, drop}
use Rattle.std.specs.List.{fold}
use Rattle.tp_rollover.specs.Anew.{highest_root}
use Rattle.tp_rollover.specs.declared.survivors.Survivor.{Survivor}
use Rattle.tp_rollover.proofs.fitting.highest_root.Given as goal

abbrev pub invariant-loop-place : goal.invariant-loop-place
invariant-loop-place l = fold (λ n (s : Survivor). max n s.root) l.highest (drop l.place l.survivors) ≡ highest_root l.survivors
