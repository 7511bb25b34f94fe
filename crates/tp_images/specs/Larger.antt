-- What goes on in a larger manager.
use Rattle.std.specs.Prelude.{List}
use Rattle.tp_model.specs.declared.types.Limits.{Limits}
use Rattle.tp_rollover.specs.Survivors.{AreSurvivors, Restores}
use Rattle.tp_rollover.specs.declared.managed.Managed.{Managed}
use Rattle.tp_rollover.specs.declared.managed.Successor.{Successor}
use Rattle.tp_rollover.specs.declared.survivors.Survivor.{Survivor}

-- each element that is alive in the small manager, and no other, is alive in the next one, with these limits,
-- as it was
pub record GoesOnLarger (limits : Limits) (small : Managed) (next : Successor) : Type 0 where
  pub survivors : List Survivor
  pub found : AreSurvivors small.manager.limits small.keeper.seen survivors
  pub restored : Restores limits next.managed.keeper next.managed.passes.items survivors next.moved.items
