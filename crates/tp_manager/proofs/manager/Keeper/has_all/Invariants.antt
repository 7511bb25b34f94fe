use Rattle.std.proofs.Common.{◌≡◌, ℕ, ◌<◌, slice_index_or}
use Rattle.tp_manager.specs.Shown.{PassShown}
use Rattle.tp_manager.proofs.manager.Keeper.has_all.Given as goal

abbrev pub invariant-loop-place : goal.invariant-loop-place
invariant-loop-place l = (k : ℕ) (d : PassShown) → k < l.place → (slice_index_or l.passes k d).number ≡ k
