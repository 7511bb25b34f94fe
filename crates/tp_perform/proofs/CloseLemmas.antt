-- The end of a script: what is in hand is given up, and the elements are counted.
use Rattle.std.proofs.Common.{◌≡◌, ◌∙◌, ℕ, zero, suc, ◌+◌, ◌<◌, List, [], ◌∷◌, All, Option, Some, refl, sym, ap, subst, arith, length, map, slice_get}
use Rattle.std.specs.declared.alloc.Global.{Global}
use Rattle.std.specs.declared.dyn_box.DynBox.{DynBox}
use Rattle.tp_model.specs.Accounts.{account_of}
use Rattle.tp_model.specs.declared.types.Account.{Account}
use Rattle.tp_server.specs.Behaviour.{Behaviour}
use Rattle.tp_server.specs.Pending.{Pending}
use Rattle.tp_manager.specs.Accounts.{Accounts, AreAll}
use Rattle.tp_manager.specs.Bounds.{account_steps}
use Rattle.tp_manager.specs.Shown.{IsOf, KeeperShown, ManagerShown, PassShown}
use Rattle.tp_script.specs.declared.head.Head.{Head}
use Rattle.tp_commands.specs.Scenes.{GatheredIn, Scene, passes_in}
use Rattle.tp_commands.specs.Told.{AreReady, IsScene, units_held}
use Rattle.tp_commands.proofs.Gatherings.{all_in, gathered_in, held_looked, ready_looked}
use Rattle.tp_perform.specs.Standing.{IsHeld, Leads}
use Rattle.tp_perform.specs.Performed.{Counts}
use Rattle.tp_perform.specs.declared.held.Held.{Held}
use Rattle.tp_perform.proofs.StandLemmas.{is_stand, stand_of, stand_there}

module _ {X : Type 0} {F : X → Type 0} (behaviour : DynBox X Global F → Behaviour) (registers : DynBox X Global F → List ℕ) (pending : DynBox X Global F → Option Pending) where
  abbrev IsAt : Held X F → Scene → Type 0
  IsAt h s = IsScene behaviour registers pending h.managed.passes.items h.servers.items h.places.items s

  module _ (head : Head) (old : Held X F) (keeper' : KeeperShown) (qs : List PassShown) (account : Account) (held : IsHeld behaviour registers pending head old)
      (counts : Accounts old.managed.manager.limits old.managed.keeper keeper' old.managed.passes.items qs account)
      (all : AreAll keeper' qs) (given : keeper'.given ≡ old.managed.keeper.given) (own : All (IsOf old.managed.manager) qs) where
    abbrev steps : ℕ
    steps = account_steps old.managed.manager.limits (length old.managed.passes.items)

    pub counted_ready : AreReady behaviour registers pending old.managed.manager qs old.servers.items old.places.items
    counted_ready = ready_looked behaviour registers pending old.managed.manager old.managed.keeper keeper' old.managed.passes.items qs old.servers.items old.places.items held.ready steps counts.gathers all given own

    pub counted_units : units_held (length old.servers.items) qs ≡ units_held (length old.servers.items) old.managed.passes.items
    counted_units = held_looked behaviour registers pending old.managed.manager old.managed.keeper keeper' old.managed.passes.items qs old.servers.items old.places.items held.ready steps counts.gathers all given own (length old.servers.items)

    pub counted_leads : (new : Held X F) → new.managed.manager ≡ old.managed.manager → new.managed.keeper ≡ keeper' → new.managed.passes.items ≡ qs → new.servers.items ≡ old.servers.items → new.places.items ≡ old.places.items
        → Leads behaviour registers pending (λ x y. Counts x account y) old new
    counted_leads new manager keeper passes servers places =
        let l = stand_there behaviour registers pending head old held in
        let olds : passes_in l.0.scene ≡ old.managed.passes.items = all_in behaviour registers pending old.managed.manager old.managed.passes.items old.servers.items old.places.items l.0.scene held.ready l.1.scene in
        let b = gathered_in behaviour registers pending old.managed.manager old.managed.keeper keeper' old.managed.passes.items qs old.servers.items old.places.items held.ready steps counts.gathers all given own l.0.scene l.1.scene in
        let at : IsAt new b.0 = subst (λ ps. IsScene behaviour registers pending ps new.servers.items new.places.items b.0) (sym passes)
        (subst (λ ss. IsScene behaviour registers pending qs ss new.places.items b.0) (sym servers) (subst (λ os. IsScene behaviour registers pending qs old.servers.items os b.0) (sym places) b.2)) in
        let so : GatheredIn (account_steps old.managed.manager.limits (length (passes_in l.0.scene))) old.managed.manager old.managed.keeper keeper' l.0.scene b.0 =
        subst (λ zs. GatheredIn (account_steps old.managed.manager.limits (length zs)) old.managed.manager old.managed.keeper keeper' l.0.scene b.0) (sym olds) b.1 in
        record {
          before = l.0;
          after = stand_of behaviour registers pending new b.0;
          was = l.1;
          leads = record {
            manager = manager ∙ sym l.1.manager;
            gathered = rw (l.1.manager, l.1.keeper, keeper) so;
            account_is = counts.account_is ∙ (ap (λ (m : ManagerShown). account_of m.limits.attempts keeper'.seen) (sym l.1.manager) ∙ ap (λ (k : KeeperShown). account_of l.0.manager.limits.attempts k.seen) (sym keeper));
          };
          is = is_stand behaviour registers pending new b.0 at;
        }
