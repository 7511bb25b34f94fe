-- What is there before the first act of a script.
use Rattle.std.proofs.Common.{◌≡◌, ◌∙◌, ℕ, ◌+◌, ◌≤◌, List, All, None, Option, sym, ap, subst, arith, length, map, drop, take}
use Rattle.std.specs.declared.alloc.Global.{Global}
use Rattle.std.specs.declared.dyn_box.DynBox.{DynBox}
use Rattle.std.proofs.lemmas.List.{length-drop, length-map, length-take-le, take_all}
use Rattle.std.proofs.lemmas.List.Elements.{All-drop, All-map, All-take}
use Rattle.tp_server.specs.Behaviour.{Behaviour, behaviour_of}
use Rattle.tp_server.specs.Pending.{Pending}
use Rattle.tp_manager.specs.Accounts.{AreAll}
use Rattle.tp_manager.specs.Shown.{ManagerShown, PassShown}
use Rattle.tp_rollover.specs.Managed.{IsNewPass}
use Rattle.tp_rollover.specs.declared.managed.Managed.{Managed}
use Rattle.tp_script.specs.Script.{server_view}
use Rattle.tp_script.specs.Script.{head_view}
use Rattle.tp_script.specs.declared.head.Head.{Head}
use Rattle.tp_script.specs.declared.script.ScriptServer.{ScriptServer}
use Rattle.tp_commands.specs.Acting.{new_places, places_shown}
use Rattle.tp_commands.specs.Places.{AllLie, workers}
use Rattle.tp_workers.specs.Free.{IsFreePass}
use Rattle.tp_commands.specs.Scenes.{IsNewPlace, Stand, passes_in}
use Rattle.tp_commands.specs.Told.{AreReady, after_servers}
use Rattle.tp_commands.proofs.Beginnings.{all_new, new_behaviours, new_registers, recipes_shown, registers_shown}
use Rattle.tp_commands.proofs.Gatherings.{all_in}
use Rattle.tp_perform.specs.Performed.{Begun, IsNewInMemory, limits_of}
use Rattle.tp_perform.specs.Standing.{IsHeld, IsStand}
use Rattle.tp_perform.specs.declared.held.Held.{Held}

-- as many as there are lines
pub as_many : {A B C : Type 0} (f : A → C) (g : B → C) (xs : List A) (ys : List B) → map f xs ≡ map g ys → length xs ≡ length ys
as_many f g xs ys same = sym (length-map xs f) ∙ (ap length same ∙ length-map ys g)

-- what is known of each so far is known of all, where there is no other
pub all_made : {B C : Type 0} (h : C → B) (made : List B) (items all : List C) (n : ℕ) → made ≡ map h (take n items) → length items ≤ n → items ≡ all → made ≡ map h all
all_made h made items all n so_far end is = so_far ∙ (ap (map h) (take_all n items end) ∙ ap (map h) is)

-- the client's pass, and one for each server
pub enough : (head : Head) (racers : ℕ) (m : Managed) (n : ℕ) → IsNewInMemory (limits_of (head_view head) racers) m → n ≡ length head.servers.items → 1 + n ≤ length m.passes.items
enough head racers m n new count =
    let limit : length m.passes.items ≡ (limits_of (head_view head) racers).parts = new.managed.parts ∙ ap (λ l. l.parts) new.limits in
    let first : length (head_view head).servers ≡ length head.servers.items = length-map head.servers.items server_view in
    omega (arith, limit, first, count)

module _ {X : Type 0} {F : X → Type 0} (behaviour : DynBox X Global F → Behaviour) (registers : DynBox X Global F → List ℕ) (pending : DynBox X Global F → Option Pending)
    (head : Head) (racers : ℕ) (h : Held X F) (new : IsNewInMemory (limits_of (head_view head) racers) h.managed)
    (recipes : map behaviour h.servers.items ≡ map (λ (x : ScriptServer). behaviour_of x.recipe) head.servers.items) (begun : map registers h.servers.items ≡ map (λ (x : ScriptServer). x.registers) head.servers.items)
    (lie : AllLie behaviour registers pending (workers (length h.servers.items) h.managed.passes.items) h.servers.items h.places.items)
    (shown : places_shown behaviour registers pending (workers (length h.servers.items) h.managed.passes.items) h.servers.items h.places.items ≡ new_places behaviour registers pending (workers (length h.servers.items) h.managed.passes.items) h.servers.items) where
  abbrev ps : List PassShown
  ps = h.managed.passes.items

  abbrev n : ℕ
  n = length h.servers.items

  abbrev m : ManagerShown
  m = h.managed.manager

  count : n ≡ length head.servers.items
  count = as_many behaviour (λ (x : ScriptServer). behaviour_of x.recipe) h.servers.items head.servers.items recipes

  limit : length ps ≡ (limits_of (head_view head) racers).parts
  limit = new.managed.parts ∙ ap (λ l. l.parts) new.limits

  room : 1 + n + racers ≡ length ps
  room =
      let first : length (head_view head).servers ≡ length head.servers.items = length-map head.servers.items server_view in
      omega (arith, limit, first, count)

  free : All (IsFreePass m) ps
  free i d within = record { own = new.managed.own i d within; free = new.free i d within }

  ready : AreReady behaviour registers pending m ps h.servers.items h.places.items
  ready = record { own = new.managed.own; client = All-take (IsFreePass m) 1 ps free; lie = lie }

  pub is_held : IsHeld behaviour registers pending head h
  is_held = record {
    managed = new.managed;
    ready = ready;
    each_server = count;
    enough = omega (arith, room);
    racers = All-map (λ unit. unit ≡ None) (λ (p : PassShown). p.open_unit) (after_servers n ps) (All-drop (λ (p : PassShown). p.open_unit ≡ None) n (drop 1 ps) (All-drop (λ (p : PassShown). p.open_unit ≡ None) 1 ps new.free));
  }

  pub has_room : 1 + length head.servers.items + racers ≤ length ps
  has_room = omega (arith, room, count)

  pub begins : (l : Stand) → IsStand behaviour registers pending h l → Begun (head_view head) racers l
  begins l is =
      let whole : passes_in l.scene ≡ ps = all_in behaviour registers pending m ps h.servers.items h.places.items l.scene ready is.scene in
      let places = is.scene.1 ∙ shown in
      let long : length (workers n ps) ≡ n = length-take-le n (drop 1 ps) (omega (arith, room, length-drop 1 ps)) in
      record {
        new = record {
          limits = ap (λ (x : ManagerShown). x.limits) is.manager ∙ new.limits;
          many = ap length whole ∙ limit;
          all = subst (λ k. AreAll k (passes_in l.scene)) (sym is.keeper) (subst (AreAll h.managed.keeper) (sym whole) new.managed.all);
          seen = ap (λ k. k.seen) is.keeper ∙ new.seen;
          own = subst (λ x. All (IsFreePass x) (passes_in l.scene)) (sym is.manager) (subst (All (IsFreePass m)) (sym whole) free);
          new = subst (All IsNewPass) (sym whole) new.new;
        };
        desks = subst (All IsNewPlace) (sym places) (all_new behaviour registers pending (workers n ps) h.servers.items);
        recipes = ap (map (λ p. p.desk.behaviour)) places ∙ (new_behaviours behaviour registers pending (workers n ps) h.servers.items long ∙ (recipes ∙ recipes_shown head.servers.items));
        registers = ap (map (λ p. p.desk.registers)) places ∙ (new_registers behaviour registers pending (workers n ps) h.servers.items long ∙ (begun ∙ registers_shown head.servers.items));
      }
