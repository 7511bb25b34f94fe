-- Where the desks of a script's servers are between commands. The first three arguments say of a box what its
-- server shows.
use Rattle.std.specs.Prelude.{◌≡◌, ℕ, Bool, false, ◌&&◌, not, is_some, List, [], ◌∷◌, map, zip, take, drop}
use Rattle.std.specs.Prelude.{Option, Some, None, IfSome}
use Rattle.std.specs.Option.{option_map}
use Rattle.std.specs.declared.alloc.Global.{Global}
use Rattle.std.specs.declared.dyn_box.DynBox.{DynBox}
use Rattle.tp_server.specs.Behaviour.{Behaviour}
use Rattle.tp_server.specs.Pending.{Pending}
use Rattle.tp_manager.specs.Shown.{PassShown}
use Rattle.tp_desk.specs.declared.aside.Aside.{Aside}
use Rattle.tp_desk.specs.Aside.{SteadyAside}
use Rattle.tp_desk.specs.Serving.{Leaves}
use Rattle.tp_commands.specs.declared.place.Place.{Place}

-- whether a desk takes part in a race or a drain: it wasn't dropped, and has nothing in hand
abbrev pub has_none : {X : Type 0} {F : X → Type 0} → Option (Aside X F) → Bool
has_none None = false
has_none (Some aside) = not (is_some aside.work)

abbrev pub is_free_at : {X : Type 0} {F : X → Type 0} → Place X F → Bool
is_free_at place = not place.is_dropped && has_none place.aside

-- nothing is in hand there
abbrev pub IsFreeAt : {X : Type 0} {F : X → Type 0} → Place X F → Type 0
IsFreeAt place = IfSome place.aside (λ a. a.work ≡ None)

-- the pass and the server that its desk began with, as they were then
abbrev pub first_of : {X : Type 0} {F : X → Type 0} → Place X F → Option (PassShown × DynBox X Global F)
first_of place = option_map (λ a. (a.first_pass.value, a.first_server.value)) place.aside

abbrev pub firsts : {X : Type 0} {F : X → Type 0} → List (Place X F)
    → List (Option (PassShown × DynBox X Global F))
firsts places = map first_of places

-- desks that begin with these
abbrev pub all_firsts : {X : Type 0} {F : X → Type 0} → List PassShown → List (DynBox X Global F)
    → List (Option (PassShown × DynBox X Global F))
all_firsts passes servers = map Some (zip passes servers)

-- the passes of this many servers, after the client's
abbrev pub workers : ℕ → List PassShown → List PassShown
workers many passes = take many (drop 1 passes)

module _ {X : Type 0} {F : X → Type 0} (behaviour : DynBox X Global F → Behaviour)
    (registers : DynBox X Global F → List ℕ) (pending : DynBox X Global F → Option Pending) where
  -- a desk lies aside, with which this pass and this server are steady
  abbrev pub Lies : PassShown → DynBox X Global F → Option (Aside X F) → Type 0
  Lies pass server None = ⊥
  Lies pass server (Some aside) = SteadyAside behaviour registers pending aside pass server

  -- so it is at each place, for lists that are as long as each other
  abbrev pub AllLie : List PassShown → List (DynBox X Global F) → List (Place X F) → Type 0
  AllLie [] [] [] = Unit {0}
  AllLie [] [] (o ∷ os) = ⊥
  AllLie [] (s ∷ ss) os = ⊥
  AllLie (p ∷ ps) [] os = ⊥
  AllLie (p ∷ ps) (s ∷ ss) [] = ⊥
  AllLie (p ∷ ps) (s ∷ ss) (o ∷ os) = Lies p s o.aside × AllLie ps ss os

module _ {X : Type 0} {F : X → Type 0} (behaviour : DynBox X Global F → Behaviour)
    (registers : DynBox X Global F → List ℕ) where
  -- this pass and this server are left as by the end of one desk that began so: the registers are what the
  -- behaviour makes of what the pass has committed since
  abbrev pub IsLeft : Option (PassShown × DynBox X Global F) → PassShown → DynBox X Global F → Type 0
  IsLeft None pass server = ⊥
  IsLeft (Some first) pass server = Leaves (behaviour server) (registers first.1)
      (registers server) first.0 pass

  -- so it is of each, for lists that are as long as each other
  abbrev pub AllLeft : List (Option (PassShown × DynBox X Global F)) → List PassShown
      → List (DynBox X Global F) → Type 0
  AllLeft [] [] [] = Unit {0}
  AllLeft [] [] (s ∷ ss) = ⊥
  AllLeft [] (p ∷ ps) ss = ⊥
  AllLeft (f ∷ fs) [] ss = ⊥
  AllLeft (f ∷ fs) (p ∷ ps) [] = ⊥
  AllLeft (f ∷ fs) (p ∷ ps) (s ∷ ss) = IsLeft f p s × AllLeft fs ps ss
