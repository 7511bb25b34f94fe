-- What an act leaves: what holds of what is held, and what is there.
use Rattle.std.proofs.Common.{◌≡◌, ◌∙◌, ℕ, ◌+◌, ◌≤◌, List, [], ◌∷◌, ◌++◌, All, None, Option, refl, sym, ap, subst, arith, length, slice_set, get_or, take, drop}
use Rattle.std.specs.declared.alloc.Global.{Global}
use Rattle.std.specs.declared.dyn_box.DynBox.{DynBox}
use Rattle.std.proofs.lemmas.List.{append-nil, drop_all, length-set, take_all}
use Rattle.tp_model.specs.Steps.{AreLimits}
use Rattle.tp_server.specs.Behaviour.{Behaviour}
use Rattle.tp_server.specs.Pending.{Pending}
use Rattle.tp_manager.specs.Accounts.{AreAll, Gathers as AllGather}
use Rattle.tp_manager.specs.Bounds.{gather_steps}
use Rattle.tp_manager.specs.Shown.{IsKeptBy, IsOf, KeeperShown, ManagerShown, PassShown}
use Rattle.tp_script.specs.Script.{head_view}
use Rattle.tp_script.specs.declared.head.Head.{Head}
use Rattle.tp_script.specs.declared.script.ClientAct.{ClientAct}
use Rattle.tp_script.specs.declared.script.Command.{Command}
use Rattle.tp_script.specs.declared.script.Command.TheVariants as command
use Rattle.tp_commands.specs.declared.place.Place.{Place}
use Rattle.tp_commands.specs.Acting.{IsSteadyPlace}
use Rattle.tp_commands.specs.Asked.{TellsClient}
use Rattle.tp_commands.specs.Places.{workers}
use Rattle.tp_commands.specs.Scenes.{Scene}
use Rattle.tp_commands.specs.Told.{AreReady, IsScene, TellsCommand, units_held}
use Rattle.tp_commands.proofs.Chains.{all_steady}
use Rattle.tp_commands.proofs.Gatherings.{gathered, held_gathered, ready_gathered}
use Rattle.tp_commands.proofs.Lies.{lie_servers}
use Rattle.tp_perform.specs.Standing.{CommandDid, Gathers, IsHeld, IsStand, Leads, SceneTold}
use Rattle.tp_perform.specs.declared.held.Held.{Held}
use Rattle.tp_perform.proofs.StandLemmas.{is_stand, stand_of, stand_there}

first_same : {A : Type 0} (x y : A) (xs ys : List A) → x ∷ xs ≡ y ∷ ys → (x ≡ y) × (xs ≡ ys)
first_same x y xs ys e = (cc, cc)

-- what is written back as a slice is what was lent
pub refilled : {A : Type 0} (n : ℕ) (xs ws : List A) → n ≡ length xs → length ws ≡ length xs → take n (ws ++ drop (length ws) xs) ≡ ws
refilled n xs ws is long =
    ap (λ r. take n (ws ++ r)) (drop_all (length ws) xs (omega (arith, long))) ∙ (ap (take n) (append-nil ws) ∙ take_all n ws (omega (arith, is, long)))

module _ {X : Type 0} {F : X → Type 0} (behaviour : DynBox X Global F → Behaviour) (registers : DynBox X Global F → List ℕ) (pending : DynBox X Global F → Option Pending) where
  abbrev Ready : Held X F → Type 0
  Ready h = AreReady behaviour registers pending h.managed.manager h.managed.passes.items h.servers.items h.places.items

  abbrev IsAt : Held X F → Scene → Type 0
  IsAt h s = IsScene behaviour registers pending h.managed.passes.items h.servers.items h.places.items s

  -- what holds goes on holding, with the same manager
  pub held_on : (head : Head) (old new : Held X F) → IsHeld behaviour registers pending head old → new.managed.manager ≡ old.managed.manager
      → IsKeptBy new.managed.manager new.managed.keeper → AreAll new.managed.keeper new.managed.passes.items → Ready new
      → length new.managed.passes.items ≡ length old.managed.passes.items → length new.servers.items ≡ length old.servers.items
      → units_held (length new.servers.items) new.managed.passes.items ≡ units_held (length old.servers.items) old.managed.passes.items → IsHeld behaviour registers pending head new
  held_on head old new held same kept all ready passes servers units = record {
    managed = record {
      keeper = kept;
      limits = subst (λ (m : ManagerShown). AreLimits m.limits) (sym same) held.managed.limits;
      own = ready.own;
      all = all;
      parts = passes ∙ held.managed.parts ∙ ap (λ (m : ManagerShown). m.limits.parts) (sym same);
    };
    ready = ready;
    each_server = servers ∙ held.each_server;
    enough = omega (arith, passes, servers, held.enough);
    racers = subst (All (λ unit. unit ≡ None)) (sym units) held.racers;
  }

  -- the same of what lies in these lists
  pub held_of : (head : Head) (old new : Held X F) (qs : List PassShown) (ss : List (DynBox X Global F)) (os : List (Place X F)) → IsHeld behaviour registers pending head old → new.managed.manager ≡ old.managed.manager
      → new.managed.passes.items ≡ qs → new.servers.items ≡ ss → new.places.items ≡ os → IsKeptBy old.managed.manager new.managed.keeper → AreAll new.managed.keeper qs → AreReady behaviour registers pending old.managed.manager qs ss os
      → length qs ≡ length old.managed.passes.items → length ss ≡ length old.servers.items → units_held (length ss) qs ≡ units_held (length old.servers.items) old.managed.passes.items → IsHeld behaviour registers pending head new
  held_of head old new qs ss os held same passes servers places kept all ready long many units =
      held_on head old new held same (subst (λ m. IsKeptBy m new.managed.keeper) (sym same) kept) (subst (AreAll new.managed.keeper) (sym passes) all)
      (subst (λ m. AreReady behaviour registers pending m new.managed.passes.items new.servers.items new.places.items) (sym same)
      (subst (λ ps. AreReady behaviour registers pending old.managed.manager ps new.servers.items new.places.items) (sym passes)
      (subst (λ x. AreReady behaviour registers pending old.managed.manager qs x new.places.items) (sym servers)
      (subst (λ x. AreReady behaviour registers pending old.managed.manager qs ss x) (sym places) ready))))
      (ap length passes ∙ long) (ap length servers ∙ many)
      (ap (λ x. units_held (length x) new.managed.passes.items) servers ∙ (ap (units_held (length ss)) passes ∙ units))

  pub at_of : (new : Held X F) (qs : List PassShown) (ss : List (DynBox X Global F)) (os : List (Place X F)) (s : Scene) → new.managed.passes.items ≡ qs → new.servers.items ≡ ss → new.places.items ≡ os → IsScene behaviour registers pending qs ss os s → IsAt new s
  at_of new qs ss os s passes servers places is =
      subst (λ ps. IsScene behaviour registers pending ps new.servers.items new.places.items s) (sym passes)
      (subst (λ x. IsScene behaviour registers pending qs x new.places.items s) (sym servers) (subst (λ x. IsScene behaviour registers pending qs ss x s) (sym places) is))

  -- ---- what is done to the scene

  pub scene_leads : (Did : ManagerShown → KeeperShown → Scene → KeeperShown → Scene → Type 0) (old new : Held X F) → new.managed.manager ≡ old.managed.manager
      → (a : Scene) × (b : Scene) × IsAt old a × Did old.managed.manager old.managed.keeper a new.managed.keeper b × IsAt new b
      → Leads behaviour registers pending (SceneTold Did) old new
  scene_leads Did old new same t = record {
    before = stand_of behaviour registers pending old t.0;
    after = stand_of behaviour registers pending new t.1;
    was = is_stand behaviour registers pending old t.0 t.2;
    leads = record { did = t.3; manager = same };
    is = is_stand behaviour registers pending new t.1 t.4;
  }

  -- ---- a command

  -- there is a place for each server
  pub places_many : (head : Head) (h : Held X F) → IsHeld behaviour registers pending head h → length h.places.items ≡ length head.servers.items
  places_many head h held =
      sym (lie_servers behaviour registers pending (workers (length h.servers.items) h.managed.passes.items) h.servers.items h.places.items held.ready.lie) ∙ held.each_server

  pub steady_in : (m : ManagerShown) (ps : List PassShown) (ss : List (DynBox X Global F)) (os : List (Place X F)) (s : Scene) → AreReady behaviour registers pending m ps ss os → IsScene behaviour registers pending ps ss os s → All IsSteadyPlace s.places
  steady_in m ps ss os s ready is = subst (All IsSteadyPlace) (sym is.1) (all_steady behaviour registers pending (workers (length ss) ps) ss os ready.lie)

  pub command_did : (head : Head) (c : Command) (old new : Held X F) (text : List ℕ) → new.managed.manager ≡ old.managed.manager → new.managed.keeper ≡ old.managed.keeper
      → (a b : Scene) → IsAt old a → TellsCommand old.managed.manager (head_view head) c a text b → IsAt new b → All IsSteadyPlace b.places
      → Leads behaviour registers pending (λ x y. CommandDid (head_view head) c x text y) old new
  command_did head c old new text manager keeper a b was tells is steady = record {
    before = stand_of behaviour registers pending old a;
    after = stand_of behaviour registers pending new b;
    was = is_stand behaviour registers pending old a was;
    leads = record { tells = tells; steady = steady; manager = manager; keeper = keeper };
    is = is_stand behaviour registers pending new b is;
  }

  -- ---- all gather

  module _ (head : Head) (old : Held X F) (keeper' : KeeperShown) (qs : List PassShown) (held : IsHeld behaviour registers pending head old)
      (gathers : AllGather old.managed.manager.limits (gather_steps old.managed.manager.limits (length old.managed.passes.items)) old.managed.keeper keeper' old.managed.passes.items qs)
      (all : AreAll keeper' qs) (given : keeper'.given ≡ old.managed.keeper.given) (own : All (IsOf old.managed.manager) qs) where
    pub gather_ready : AreReady behaviour registers pending old.managed.manager qs old.servers.items old.places.items
    gather_ready = ready_gathered behaviour registers pending old.managed.manager old.managed.keeper keeper' old.managed.passes.items qs old.servers.items old.places.items held.ready gathers all given own

    pub gather_units : units_held (length old.servers.items) qs ≡ units_held (length old.servers.items) old.managed.passes.items
    gather_units = held_gathered behaviour registers pending old.managed.manager old.managed.keeper keeper' old.managed.passes.items qs old.servers.items old.places.items held.ready gathers all given own (length old.servers.items)

    pub gather_leads : (new : Held X F) → new.managed.manager ≡ old.managed.manager → new.managed.keeper ≡ keeper' → new.managed.passes.items ≡ qs → new.servers.items ≡ old.servers.items → new.places.items ≡ old.places.items
        → Leads behaviour registers pending Gathers old new
    gather_leads new manager keeper passes servers places =
        let l = stand_there behaviour registers pending head old held in
        let b = gathered behaviour registers pending old.managed.manager old.managed.keeper keeper' old.managed.passes.items qs old.servers.items old.places.items held.ready gathers all given own l.0.scene l.1.scene in
        let at : IsAt new b.0 = subst (λ ps. IsScene behaviour registers pending ps new.servers.items new.places.items b.0) (sym passes)
        (subst (λ ss. IsScene behaviour registers pending qs ss new.places.items b.0) (sym servers) (subst (λ os. IsScene behaviour registers pending qs old.servers.items os b.0) (sym places) b.2)) in
        record {
          before = l.0;
          after = stand_of behaviour registers pending new b.0;
          was = l.1;
          leads = record {
            manager = manager ∙ sym l.1.manager;
            gathered = rw (l.1.manager, l.1.keeper, keeper) b.1;
          };
          is = is_stand behaviour registers pending new b.0 at;
        }

  -- ---- the client

  module _ (p : PassShown) (ss : List (DynBox X Global F)) (os : List (Place X F)) where
    -- the client's pass is the first
    client_first : (ps : List PassShown) (s : Scene) → IsScene behaviour registers pending ps ss os s → (d : PassShown) → get_or ps 0 d ≡ s.client
    client_first ps s is d = ap (λ zs. get_or zs 0 d) is.0

    scene_first : (ps : List PassShown) (s : Scene) → IsScene behaviour registers pending ps ss os s → IsScene behaviour registers pending (slice_set ps 0 p) ss os (record s { client = p })
    scene_first [] s is = let e : [] ≡ s.client ∷ (workers (length ss) [] ++ s.racers) = is.0 in absurd cc
    scene_first (q ∷ qs) s is = (ap (λ zs. p ∷ zs) (first_same q s.client qs (take (length ss) qs ++ s.racers) is.0).1, is.1)

  -- the pass did what a command asks for
  pub client_did : (head : Head) (p : PassShown) (old new : Held X F) → IsHeld behaviour registers pending head old → new.managed.manager ≡ old.managed.manager → new.managed.keeper ≡ old.managed.keeper
      → new.managed.passes.items ≡ slice_set old.managed.passes.items 0 p → new.servers.items ≡ old.servers.items → new.places.items ≡ old.places.items
      → (act : ClientAct) (text : List ℕ) (d : PassShown) → d ≡ get_or old.managed.passes.items 0 d → TellsClient old.managed.manager.limits act d text p
      → Leads behaviour registers pending (λ a b. CommandDid (head_view head) (command.Client act) a text b) old new
  client_did head p old new held manager keeper passes servers places act text d d_is tells =
      let l = stand_there behaviour registers pending head old held in
      let s = l.0.scene in
      let is : IsAt old s = l.1.scene in
      command_did head (command.Client act) old new text manager keeper s (record s { client = p }) is
      (record { tells = subst (λ x. TellsClient old.managed.manager.limits act x text p) (d_is ∙ client_first p old.servers.items old.places.items old.managed.passes.items s is d) tells; others = record { places = refl; racers = refl } })
      (subst (λ ps. IsScene behaviour registers pending ps new.servers.items new.places.items (record s { client = p })) (sym passes)
      (subst (λ ss. IsScene behaviour registers pending (slice_set old.managed.passes.items 0 p) ss new.places.items (record s { client = p })) (sym servers)
      (subst (λ os. IsScene behaviour registers pending (slice_set old.managed.passes.items 0 p) old.servers.items os (record s { client = p })) (sym places)
      (scene_first p old.servers.items old.places.items old.managed.passes.items s is))))
      (steady_in old.managed.manager old.managed.passes.items old.servers.items old.places.items s held.ready is)
