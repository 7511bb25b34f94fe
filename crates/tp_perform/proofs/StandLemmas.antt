-- What is there between two acts, of what is held in memory.
use Rattle.std.proofs.Common.{◌≡◌, ◌∙◌, ℕ, List, Option, refl, sym, subst, arith}
use Rattle.std.specs.declared.alloc.Global.{Global}
use Rattle.std.specs.declared.dyn_box.DynBox.{DynBox}
use Rattle.tp_server.specs.Behaviour.{Behaviour}
use Rattle.tp_server.specs.Pending.{Pending}
use Rattle.tp_script.specs.declared.head.Head.{Head}
use Rattle.tp_commands.specs.Scenes.{Scene, Stand}
use Rattle.tp_commands.specs.Told.{IsScene}
use Rattle.tp_commands.proofs.Slices.{one_scene, scene_there}
use Rattle.tp_perform.specs.Standing.{Begins, IsHeld, IsStand, Leads}
use Rattle.tp_perform.specs.declared.held.Held.{Held}

module _ {X : Type 0} {F : X → Type 0} (behaviour : DynBox X Global F → Behaviour) (registers : DynBox X Global F → List ℕ) (pending : DynBox X Global F → Option Pending) where
  abbrev Is : Held X F → Stand → Type 0
  Is h l = IsStand behaviour registers pending h l

  -- what is there of a scene
  abbrev pub stand_of : Held X F → Scene → Stand
  stand_of h s = record { manager = h.managed.manager; keeper = h.managed.keeper; scene = s }

  pub is_stand : (h : Held X F) (s : Scene) → IsScene behaviour registers pending h.managed.passes.items h.servers.items h.places.items s → Is h (stand_of h s)
  is_stand h s is = record { manager = refl; keeper = refl; scene = is }

  -- there is one
  pub stand_there : (head : Head) (h : Held X F) → IsHeld behaviour registers pending head h → (l : Stand) × Is h l
  stand_there head h held =
      let s = scene_there behaviour registers pending h.managed.passes.items h.servers.items h.places.items (omega (arith, held.enough)) in
      (stand_of h s.0, is_stand h s.0 s.1)

  pub one_stand : (h : Held X F) (a b : Stand) → Is h a → Is h b → a ≡ b
  one_stand h a b x y =
      let m = x.manager ∙ sym y.manager in
      let k = x.keeper ∙ sym y.keeper in
      let s = one_scene behaviour registers pending h.managed.passes.items h.servers.items h.places.items a.scene b.scene x.scene y.scene in
      λ i. record { manager = m i; keeper = k i; scene = s i }

  -- ---- one after another

  module _ (R S T : Stand → Stand → Type 0) (h h' : Held X F) where
    pub leads_then : (h'' : Held X F) → ((a b c : Stand) → R a b → S b c → T a c) → Leads behaviour registers pending R h h' → Leads behaviour registers pending S h' h'' → Leads behaviour registers pending T h h''
    leads_then h'' both p q = record {
      before = p.before;
      after = q.after;
      was = p.was;
      leads = both p.before p.after q.after p.leads (subst (λ l. S l q.after) (one_stand h' q.before p.after q.was p.is) q.leads);
      is = q.is;
    }

    pub begins_then : ((a b c : Stand) → R a b → S b c → T a c) → Leads behaviour registers pending R h h' → Begins behaviour registers pending S h' → Begins behaviour registers pending T h
    begins_then both p q = record {
      before = p.before;
      after = q.after;
      was = p.was;
      leads = both p.before p.after q.after p.leads (subst (λ l. S l q.after) (one_stand h' q.before p.after q.was p.is) q.leads);
    }

  -- the one and then the other
  pub leads_both : (R S : Stand → Stand → Type 0) (h h' h'' : Held X F) → Leads behaviour registers pending R h h' → Leads behaviour registers pending S h' h'' → Leads behaviour registers pending (λ a b. (m : Stand) × R a m × S m b) h h''
  leads_both R S h h' h'' p q = leads_then R S (λ a b. (m : Stand) × R a m × S m b) h h' h'' (λ a m b r s. (m, r, s)) p q

  module _ (R S : Stand → Stand → Type 0) (h h' : Held X F) where
    pub leads_so : ((a b : Stand) → R a b → S a b) → Leads behaviour registers pending R h h' → Leads behaviour registers pending S h h'
    leads_so so p = record { before = p.before; after = p.after; was = p.was; leads = so p.before p.after p.leads; is = p.is }

    pub begins_so : ((a b : Stand) → R a b → S a b) → Leads behaviour registers pending R h h' → Begins behaviour registers pending S h
    begins_so so p = record { before = p.before; after = p.after; was = p.was; leads = so p.before p.after p.leads }

  -- by what is held before and after
  pub leads_is : (R S : Stand → Stand → Type 0) (h h' : Held X F) → ((a b : Stand) → Is h a → Is h' b → R a b → S a b) → Leads behaviour registers pending R h h' → Leads behaviour registers pending S h h'
  leads_is R S h h' so p = record { before = p.before; after = p.after; was = p.was; leads = so p.before p.after p.was p.is p.leads; is = p.is }

  -- where nothing was done
  pub leads_none : (head : Head) (h : Held X F) (R : Stand → Stand → Type 0) → IsHeld behaviour registers pending head h → ((l : Stand) → R l l) → Leads behaviour registers pending R h h
  leads_none head h R held same =
      let l = stand_there head h held in
      record { before = l.0; after = l.0; was = l.1; leads = same l.0; is = l.1 }

  -- the same, by what is held
  pub leads_here : (head : Head) (h : Held X F) (R : Stand → Stand → Type 0) → IsHeld behaviour registers pending head h → ((l : Stand) → Is h l → R l l) → Leads behaviour registers pending R h h
  leads_here head h R held same =
      let l = stand_there head h held in
      record { before = l.0; after = l.0; was = l.1; leads = same l.0 l.1; is = l.1 }
