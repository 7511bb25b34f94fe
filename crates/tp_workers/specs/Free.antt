-- A pass that can be put to work.
use Rattle.std.specs.Prelude.{◌≡◌, None}
use Rattle.tp_manager.specs.Shown.{IsOf, ManagerShown, PassShown}

-- the pass is of this manager, and has no unit open
pub record IsFreePass (m : ManagerShown) (p : PassShown) : Type 0 where
  pub own : IsOf m p
  pub free : p.open_unit ≡ None
