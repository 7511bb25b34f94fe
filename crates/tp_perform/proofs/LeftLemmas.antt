-- What desks began with, and what they leave.
use Rattle.std.proofs.Common.{◌≡◌, ◌∙◌, ℕ, List, Option, inl, refl, sym, ap, subst, map}
use Rattle.std.specs.declared.alloc.Global.{Global}
use Rattle.std.specs.declared.dyn_box.DynBox.{DynBox}
use Rattle.tp_server.specs.Behaviour.{Behaviour}
use Rattle.tp_server.specs.Pending.{Pending}
use Rattle.tp_script.specs.declared.head.Head.{Head}
use Rattle.tp_commands.specs.declared.place.Place.{Place}
use Rattle.tp_commands.specs.Places.{firsts}
use Rattle.tp_commands.specs.Scenes.{Stand}
use Rattle.tp_commands.specs.Told.{began_of}
use Rattle.tp_commands.proofs.Began.{began_same, scene_began}
use Rattle.tp_perform.specs.Left.{OrSame, Reaches, began_at, began_in}
use Rattle.tp_perform.specs.Standing.{IsHeld, IsStand, Leads}
use Rattle.tp_perform.specs.declared.held.Held.{Held}
use Rattle.tp_perform.proofs.StandLemmas.{stand_there, one_stand}

module _ {X : Type 0} {F : X → Type 0} (behaviour : DynBox X Global F → Behaviour) (registers : DynBox X Global F → List ℕ) (pending : DynBox X Global F → Option Pending) where
  abbrev Box : Type 0
  Box = DynBox X Global F

  -- ---- what was done

  stand_began : (head : Head) (h : Held X F) (l : Stand) → IsHeld behaviour registers pending head h → IsStand behaviour registers pending h l → began_at l ≡ began_in registers h
  stand_began head h l held is = scene_began behaviour registers pending h.managed.manager h.managed.passes.items h.servers.items h.places.items l.scene held.ready is.scene

  pub reach_same : (head : Head) (h h' : Held X F) (R : Stand → Stand → Type 0) → IsHeld behaviour registers pending head h → began_in registers h' ≡ began_in registers h → Reaches behaviour registers pending (OrSame R) h h'
  reach_same head h h' R held same =
      let l = stand_there behaviour registers pending head h held in
      record { before = l.0; after = l.0; was = l.1; done = inl refl; began = stand_began head h l.0 held l.1 ∙ sym same }

  pub reach_lead : (head : Head) (h h' : Held X F) (R S : Stand → Stand → Type 0) → IsHeld behaviour registers pending head h' → ((a b : Stand) → R a b → S a b) → Leads behaviour registers pending R h h' → Reaches behaviour registers pending S h h'
  reach_lead head h h' R S held so p = record { before = p.before; after = p.after; was = p.was; done = so p.before p.after p.leads; began = stand_began head h' p.after held p.is }

  pub reach_so : (h h' : Held X F) (R S : Stand → Stand → Type 0) → ((a b : Stand) → R a b → S a b) → Reaches behaviour registers pending R h h' → Reaches behaviour registers pending S h h'
  reach_so h h' R S so p = record { before = p.before; after = p.after; was = p.was; done = so p.before p.after p.done; began = p.began }

  -- by what is held before
  pub reach_is : (h h' : Held X F) (R S : Stand → Stand → Type 0) → ((a b : Stand) → IsStand behaviour registers pending h a → R a b → S a b) → Reaches behaviour registers pending R h h' → Reaches behaviour registers pending S h h'
  reach_is h h' R S so p = record { before = p.before; after = p.after; was = p.was; done = so p.before p.after p.was p.done; began = p.began }

  pub reach_then : (h h' h'' : Held X F) (R S T : Stand → Stand → Type 0) → ((a b c : Stand) → R a b → S b c → T a c) → Leads behaviour registers pending R h h' → Reaches behaviour registers pending S h' h'' → Reaches behaviour registers pending T h h''
  reach_then h h' h'' R S T both p q = record {
    before = p.before;
    after = q.after;
    was = p.was;
    done = both p.before p.after q.after p.leads (subst (λ l. S l q.after) (one_stand behaviour registers pending h' q.before p.after q.was p.is) q.done);
    began = q.began;
  }

  pub began_refilled : (os ns ms : List (Place X F)) → ms ≡ ns → firsts ns ≡ firsts os → map (began_of registers) ms ≡ map (began_of registers) os
  began_refilled os ns ms is same = ap (map (began_of registers)) is ∙ began_same behaviour registers pending os ns same
