use Rattle.std.proofs.Common.{◌≡◌, ◌<◌, ℕ, None, get_or}
use Rattle.tp_manager.specs.Shown.{PassShown}
use Rattle.tp_rollover.proofs.passes.has_open.Given as goal

abbrev pub invariant-loop-place : goal.invariant-loop-place
invariant-loop-place l = (k : ℕ) (d : PassShown) → k < l.place → (get_or l.passes k d).open_unit ≡ None
