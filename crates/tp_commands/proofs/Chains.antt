-- Races, and places that lie aside.
use Rattle.std.proofs.Common.{◌≡◌, ℕ, ◌+◌, List, [], ◌∷◌, ◌++◌, All, Option, Some, None, refl, length}
use Rattle.std.specs.declared.alloc.Global.{Global}
use Rattle.std.specs.declared.dyn_box.DynBox.{DynBox}
use Rattle.std.proofs.lemmas.List.Elements.{All-cons, All-nil}
use Rattle.tp_server.specs.Behaviour.{Behaviour}
use Rattle.tp_server.specs.Pending.{Pending}
use Rattle.tp_desk.specs.declared.aside.Aside.{Aside}
use Rattle.tp_manager.specs.Shown.{ManagerShown, PassShown}
use Rattle.tp_script.specs.Script.{HeadView}
use Rattle.tp_script.specs.declared.script.Race.{Race}
use Rattle.tp_commands.specs.declared.place.Place.{Place}
use Rattle.tp_commands.specs.Acting.{IsSteadyPlace, PlaceShown, place_shown, places_shown}
use Rattle.tp_commands.specs.Places.{AllLie, Lies}
use Rattle.tp_commands.specs.Told.{RaceLine, Raced}

-- ---- races

module _ (m : ManagerShown) (h : HeadView) where
  -- a race with its passes among all
  module _ (raced : ℕ) (plan : Race) (client client' : PassShown) (places places' : List PlaceShown) (front rear here back after : List PassShown) (text : List ℕ)
      (race : rear ≡ here ++ back) (behind : length front ≡ raced) (needed : length here ≡ plan.clients + plan.killers)
      (tells : RaceLine m h.settings.rows plan (record { client = client; places = places; racers = here }) text (record { client = client'; places = places'; racers = after }))
      (steady : All IsSteadyPlace places') where
    pub races : Raced m h plan raced (record { client = client; places = places; racers = front ++ (here ++ back) }) text (record { client = client'; places = places'; racers = front ++ (after ++ back) })
    races = record {
      front = front;
      here = here;
      after = after;
      back = back;
      parts = refl;
      kept = refl;
      behind = behind;
      needed = needed;
      tells = tells;
      steady = steady;
    }

-- places that lie aside are steady
module _ {X : Type 0} {F : X → Type 0} (behaviour : DynBox X Global F → Behaviour) (registers : DynBox X Global F → List ℕ) (pending : DynBox X Global F → Option Pending) where
  abbrev Box : Type 0
  Box = DynBox X Global F

  steady_at : (p : PassShown) (s : Box) (o : Place X F) → (a : Option (Aside X F)) → o.aside ≡ a → Lies behaviour registers pending p s a → IsSteadyPlace (place_shown behaviour registers pending p s o)
  steady_at p s o None is lies = absurd lies
  steady_at p s o (Some a) is lies = rw is (a.drafts.items, lies)

  pub all_steady : (ps : List PassShown) (ss : List Box) (os : List (Place X F)) → AllLie behaviour registers pending ps ss os → All IsSteadyPlace (places_shown behaviour registers pending ps ss os)
  all_steady [] [] [] all = All-nil IsSteadyPlace
  all_steady [] [] (o ∷ os) all = absurd all
  all_steady [] (s ∷ ss) os all = absurd all
  all_steady (p ∷ ps) [] os all = absurd all
  all_steady (p ∷ ps) (s ∷ ss) [] all = absurd all
  all_steady (p ∷ ps) (s ∷ ss) (o ∷ os) all = All-cons IsSteadyPlace (place_shown behaviour registers pending p s o) (places_shown behaviour registers pending ps ss os) (steady_at p s o o.aside refl all.0) (all_steady ps ss os all.1)
