-- A fold of a box's work that begins.
use Rattle.std.specs.Prelude.{◌≡◌, ℕ, ◌+◌, List, Some, slice_get, slice_set}
use Rattle.tp_manager.specs.Shown.{PassShown}

-- The fold of the box at place k begins with this box and the pass of its desk, which stands behind the
-- caller's own. The folds of the other boxes go on.
pub record BeginsFold {B : Type 0} (k : ℕ) (b : B) (passes : List PassShown)
    (old new : List (PassShown × B)) : Type 0 where
  pub pass : PassShown
  pub pass_is : slice_get passes (k + 1) ≡ Some pass
  pub folds_are : new ≡ slice_set old k (pass, b)
