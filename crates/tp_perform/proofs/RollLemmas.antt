-- A rollover: in the new manager no pass has a unit open, where none had one.
use Rattle.std.proofs.Common.{◌≡◌, ◌∙◌, ℕ, ◌+◌, ◌≤◌, zero, suc, List, [], ◌∷◌, All, None, Option, Result, Ok, Err, Vec, refl, sym, ap, subst, arith, length, map, drop, take}
use Rattle.std.specs.Prelude.{IfOk, OnErr}
use Rattle.std.specs.declared.alloc.Global.{Global}
use Rattle.std.specs.declared.dyn_box.DynBox.{DynBox}
use Rattle.std.proofs.lemmas.List.{take_all}
use Rattle.std.proofs.lemmas.List.Elements.{All-cons, All-drop, All-head, All-map, All-nil, All-tail, All-take}
use Rattle.tp_model.specs.declared.types.Limits.{Limits}
use Rattle.tp_server.specs.Behaviour.{Behaviour}
use Rattle.tp_server.specs.Pending.{Pending}
use Rattle.tp_manager.specs.Shown.{PassShown}
use Rattle.tp_rollover.specs.Faults.{AreFree}
use Rattle.tp_rollover.specs.Managed.{GoesOnAnew, IsManaged}
use Rattle.tp_rollover.specs.declared.managed.Managed.{Managed}
use Rattle.tp_rollover.specs.declared.moved.Moved.{Moved}
use Rattle.tp_rollover.specs.declared.moved.RollFault.{RollFault}
use Rattle.tp_script.specs.declared.head.Head.{Head}
use Rattle.tp_commands.specs.declared.place.Place.{Place}
use Rattle.tp_commands.specs.Rollover.{RolledOver, stand}
use Rattle.tp_commands.specs.Scenes.{Scene, Stand}
use Rattle.tp_commands.specs.Told.{AreReady, IsScene, after_servers, units_held}
use Rattle.tp_commands.proofs.Gatherings.{own_in}
use Rattle.tp_commands.proofs.Rollovers.{gone_free}
use Rattle.tp_perform.specs.Standing.{IsHeld, Leads}
use Rattle.tp_perform.specs.declared.held.Held.{Held}
use Rattle.tp_perform.proofs.StandLemmas.{is_stand, stand_of}

abbrev Free : PassShown → Type 0
Free p = p.open_unit ≡ None

abbrev Units : List PassShown → List (Option ℕ)
Units ps = map (λ (p : PassShown). p.open_unit) ps

-- passes whose units are none, and units of such passes
free_of : (ps : List PassShown) → All (λ unit. unit ≡ None) (Units ps) → AreFree ps
free_of [] none = All-nil Free
free_of (p ∷ ps) none = All-cons Free p ps (All-head (λ unit. unit ≡ None) p.open_unit (Units ps) none) (free_of ps (All-tail (λ unit. unit ≡ None) p.open_unit (Units ps) none))

units_of : (ps : List PassShown) → AreFree ps → All (λ unit. unit ≡ None) (Units ps)
units_of ps free = All-map (λ unit. unit ≡ None) (λ (p : PassShown). p.open_unit) ps free

-- the first n and those behind them
split_free : (n : ℕ) (ps : List PassShown) → AreFree (take n ps) → AreFree (drop n ps) → AreFree ps
split_free zero ps front rest = rest
split_free (suc n) [] front rest = All-nil Free
split_free (suc n) (p ∷ ps) front rest = All-cons Free p ps (All-head Free p (take n ps) front) (split_free n ps (All-tail Free p (take n ps) front) rest)

drop_none : (n : ℕ) → drop {A = PassShown} n [] ≡ []
drop_none zero = refl
drop_none (suc n) = refl

drop_one : (n : ℕ) (ps : List PassShown) → drop (1 + n) ps ≡ drop n (drop 1 ps)
drop_one n [] = drop_none (1 + n) ∙ sym (drop_none n)
drop_one n (p ∷ ps) = let e : 1 + n ≡ suc n = omega arith in ap (λ k. drop k (p ∷ ps)) e

-- behind the servers' no pass has a unit open, where none of them all had one
pub none_held : (n : ℕ) (old new : Managed) (moved : List Moved) → IsManaged old → IsManaged new → GoesOnAnew old new moved → AreFree (take (1 + n) old.passes.items)
    → All (λ unit. unit ≡ None) (units_held n old.passes.items) → All (λ unit. unit ≡ None) (units_held n new.passes.items)
none_held n old new moved was is on own none =
    let before : AreFree (drop (1 + n) old.passes.items) = subst AreFree (sym (drop_one n old.passes.items)) (free_of (after_servers n old.passes.items) none) in
    let all : AreFree old.passes.items = split_free (1 + n) old.passes.items own before in
    let many = length new.passes.items in
    let gone = gone_free many old new moved was is on (All-take Free many old.passes.items all) in
    let free : AreFree new.passes.items = subst AreFree (take_all many new.passes.items (omega arith)) gone in
    units_of (after_servers n new.passes.items) (All-drop Free n (drop 1 new.passes.items) (All-drop Free 1 new.passes.items free))

module _ {X : Type 0} {F : X → Type 0} (behaviour : DynBox X Global F → Behaviour) (registers : DynBox X Global F → List ℕ) (pending : DynBox X Global F → Option Pending) where
  -- where another manager has taken the place of the first
  pub held_anew : (head : Head) (old new : Held X F) (os : List (Place X F)) → IsHeld behaviour registers pending head old → IsManaged new.managed → new.managed.manager.limits ≡ old.managed.manager.limits
      → new.servers.items ≡ old.servers.items → new.places.items ≡ os → AreReady behaviour registers pending new.managed.manager new.managed.passes.items old.servers.items os
      → All (λ unit. unit ≡ None) (units_held (length old.servers.items) new.managed.passes.items) → IsHeld behaviour registers pending head new
  held_anew head old new os held is limits servers places ready none =
      let each : length new.servers.items ≡ length old.servers.items = ap length servers in
      let parts : new.managed.manager.limits.parts ≡ old.managed.manager.limits.parts = ap (λ (l : Limits). l.parts) limits in
      let whole = is.parts in
      let was = held.managed.parts in
      let before = held.enough in
      record {
        managed = is;
        ready = subst (λ x. AreReady behaviour registers pending new.managed.manager new.managed.passes.items x new.places.items) (sym servers)
            (subst (λ x. AreReady behaviour registers pending new.managed.manager new.managed.passes.items old.servers.items x) (sym places) ready);
        each_server = each ∙ held.each_server;
        enough = omega (arith, whole, parts, was, before, each);
        racers = subst (λ x. All (λ unit. unit ≡ None) (units_held (length x) new.managed.passes.items)) (sym servers) none;
      }

  -- the same, by what a rollover answered
  pub none_after : (r : Result (Vec Moved Global) RollFault) (old new : Managed) (ss : List (DynBox X Global F)) (os ns : List (Place X F)) → IsManaged old → IsManaged new → AreReady behaviour registers pending old.manager old.passes.items ss os
      → IfOk r (λ moved. GoesOnAnew old new moved.items)
      → IfOk r (λ moved. (a : Scene) × (b : Scene) × IsScene behaviour registers pending old.passes.items ss os a × RolledOver (stand old a) moved.items (stand new b) × IsScene behaviour registers pending new.passes.items ss ns b)
      → OnErr r (units_held (length ss) new.passes.items ≡ units_held (length ss) old.passes.items)
      → All (λ unit. unit ≡ None) (units_held (length ss) old.passes.items) → All (λ unit. unit ≡ None) (units_held (length ss) new.passes.items)
  none_after (Ok moved) old new ss os ns was is ready on t same none =
      none_held (length ss) old new moved.items was is on (subst AreFree (own_in behaviour registers pending old.manager old.passes.items ss os t.0 ready t.2) t.3.idle) none
  none_after (Err why) old new ss os ns was is ready on t same none = subst (All (λ unit. unit ≡ None)) (sym same) none

  -- what is there before and after
  pub stands_lead : (R : Stand → Stand → Type 0) (old new : Held X F)
      → (a : Scene) × (b : Scene) × IsScene behaviour registers pending old.managed.passes.items old.servers.items old.places.items a × R (stand old.managed a) (stand new.managed b)
      × IsScene behaviour registers pending new.managed.passes.items new.servers.items new.places.items b
      → Leads behaviour registers pending R old new
  stands_lead R old new t = record {
    before = stand_of behaviour registers pending old t.0;
    after = stand_of behaviour registers pending new t.1;
    was = is_stand behaviour registers pending old t.0 t.2;
    leads = t.3;
    is = is_stand behaviour registers pending new t.1 t.4;
  }
