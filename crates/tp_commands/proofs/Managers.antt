-- A manager with all its passes between two commands.
use Rattle.std.proofs.Common.{◌≡◌, ℕ, List, All, Option, sym, subst, length}
use Rattle.std.specs.declared.alloc.Global.{Global}
use Rattle.std.specs.declared.dyn_box.DynBox.{DynBox}
use Rattle.tp_server.specs.Behaviour.{Behaviour}
use Rattle.tp_server.specs.Pending.{Pending}
use Rattle.tp_manager.specs.Accounts.{Gathers}
use Rattle.tp_manager.specs.Bounds.{gather_steps}
use Rattle.tp_manager.specs.Shown.{IsOf, ManagerShown, PassShown}
use Rattle.tp_rollover.specs.Faults.{AreFree}
use Rattle.tp_rollover.specs.Managed.{IsManaged}
use Rattle.tp_rollover.specs.declared.managed.Managed.{Managed}
use Rattle.tp_workers.specs.Free.{IsFreePass}
use Rattle.tp_commands.specs.declared.place.Place.{Place}
use Rattle.tp_commands.specs.Told.{AreReady}
use Rattle.tp_commands.proofs.Gatherings.{ready_gathered}

module _ {X : Type 0} {F : X → Type 0} (behaviour : DynBox X Global F → Behaviour) (registers : DynBox X Global F → List ℕ) (pending : DynBox X Global F → Option Pending)
    (old new : Managed) (ss : List (DynBox X Global F)) (os : List (Place X F)) (is' : IsManaged new) (manager : new.manager ≡ old.manager) (given : new.keeper.given ≡ old.keeper.given)
    (gathers : Gathers old.manager.limits (gather_steps old.manager.limits (length old.passes.items)) old.keeper new.keeper old.passes.items new.passes.items)
    (ready : AreReady behaviour registers pending old.manager old.passes.items ss os) where
  own : All (IsOf old.manager) new.passes.items
  own = subst (λ z. All (IsOf z) new.passes.items) manager is'.own

  pub ready_at : AreReady behaviour registers pending new.manager new.passes.items ss os
  ready_at =
      subst (λ z. AreReady behaviour registers pending z new.passes.items ss os) (sym manager)
      (ready_gathered behaviour registers pending old.manager old.keeper new.keeper old.passes.items new.passes.items ss os ready gathers is'.all given own)
