use Rattle.std.proofs.Common.{◌≡◌, Bool, List, drop}
use Rattle.std.specs.List.{fold}
use Rattle.tp_rollover.specs.Anew.{kept_for, with_holder}
use Rattle.tp_rollover.specs.declared.survivors.Survivor.{Survivor}
use Rattle.tp_rollover.proofs.places.kept_for.Given as goal

abbrev pub invariant-loop-place : goal.invariant-loop-place
invariant-loop-place l = fold (λ (kept : List Bool) (s : Survivor). with_holder s.holder kept) l.kept (drop l.place l.survivors) ≡ kept_for l.survivors
