-- The end of a script: the desks are ended, and the passes behind theirs are free.
use Rattle.std.proofs.Common.{◌≡◌, ◌∙◌, ℕ, List, [], ◌∷◌, ◌++◌, All, None, Option, sym, ap, subst, length, map, drop, take}
use Rattle.std.specs.declared.alloc.Global.{Global}
use Rattle.std.specs.declared.dyn_box.DynBox.{DynBox}
use Rattle.std.proofs.Math.Seq.{drop-append_seam}
use Rattle.std.proofs.lemmas.List.Elements.{All-append, All-cons, All-drop, All-head, All-nil, All-tail}
use Rattle.tp_server.specs.Behaviour.{Behaviour}
use Rattle.tp_server.specs.Pending.{Pending}
use Rattle.tp_manager.specs.Shown.{IsOf, ManagerShown, PassShown}
use Rattle.tp_workers.specs.Free.{IsFreePass}
use Rattle.tp_commands.specs.declared.place.Place.{Place}
use Rattle.tp_commands.specs.Acting.{AllEnded, places_shown}
use Rattle.tp_commands.specs.Places.{AllLeft, AllLie, firsts, workers}
use Rattle.tp_commands.proofs.Lefts.{workers_are}
use Rattle.tp_commands.specs.Told.{AreReady, after_servers, units_held}

-- passes that have no unit open are free
pub all_free : (m : ManagerShown) (ps : List PassShown) → All (IsOf m) ps → All (λ unit. unit ≡ None) (map (λ (p : PassShown). p.open_unit) ps) → All (IsFreePass m) ps
all_free m [] own none = All-nil (IsFreePass m)
all_free m (p ∷ ps) own none =
    let units : List (Option ℕ) = map (λ (q : PassShown). q.open_unit) ps in
    All-cons (IsFreePass m) p ps (record { own = All-head (IsOf m) p ps own; free = All-head (λ unit. unit ≡ None) p.open_unit units none })
    (all_free m ps (All-tail (IsOf m) p ps own) (All-tail (λ unit. unit ≡ None) p.open_unit units none))

module _ {X : Type 0} {F : X → Type 0} (behaviour : DynBox X Global F → Behaviour) (registers : DynBox X Global F → List ℕ) (pending : DynBox X Global F → Option Pending)
    (m : ManagerShown) (ps : List PassShown) (client : PassShown) (others ws rest : List PassShown) (ss : List (DynBox X Global F)) (os : List (Place X F))
    (all : ps ≡ client ∷ others) (parts : others ≡ ws ++ rest) (many : length ws ≡ length ss) (ready : AreReady behaviour registers pending m ps ss os) (racers : All (λ unit. unit ≡ None) (units_held (length ss) ps)) where
  apart : ps ≡ client ∷ (ws ++ rest)
  apart = all ∙ ap (λ zs. client ∷ zs) parts

  these : workers (length ss) ps ≡ ws
  these = ap (workers (length ss)) apart ∙ workers_are behaviour registers pending (length ss) client ws rest many

  behind : after_servers (length ss) ps ≡ rest
  behind = ap (after_servers (length ss)) apart ∙ (ap (λ n. drop n (ws ++ rest)) (sym many) ∙ drop-append_seam ws rest)

  pub desks_lie : AllLie behaviour registers pending ws ss os
  desks_lie = subst (λ zs. AllLie behaviour registers pending zs ss os) these ready.lie

  rest_free : All (IsFreePass m) rest
  rest_free =
      subst (All (IsFreePass m)) behind (all_free m (after_servers (length ss) ps) (All-drop (IsOf m) (length ss) (drop 1 ps) (All-drop (IsOf m) 1 ps ready.own)) racers)

  module _ (qs : List PassShown) (long : length qs ≡ length ws) where
    pub free_ended : All (IsFreePass m) qs → All (IsFreePass m) (client ∷ (qs ++ rest))
    free_ended free =
        All-cons (IsFreePass m) client (qs ++ rest) (All-head (IsFreePass m) client [] (subst (λ zs. All (IsFreePass m) (take 1 zs)) all ready.client))
        (All-append (IsFreePass m) qs rest free rest_free)

    pub all_ended : (left : List (List ℕ)) → AllEnded (places_shown behaviour registers pending ws ss os) qs left
        → AllEnded (places_shown behaviour registers pending (workers (length ss) ps) ss os) (workers (length ss) (client ∷ (qs ++ rest))) left
    all_ended left ended =
        subst (λ zs. AllEnded (places_shown behaviour registers pending zs ss os) (workers (length ss) (client ∷ (qs ++ rest))) left) (sym these)
        (subst (λ zs. AllEnded (places_shown behaviour registers pending ws ss os) zs left) (sym (workers_are behaviour registers pending (length ss) client qs rest (long ∙ many))) ended)

    pub all_left : (ts : List (DynBox X Global F)) → AllLeft behaviour registers (firsts os) qs ts → AllLeft behaviour registers (firsts os) (workers (length ss) (client ∷ (qs ++ rest))) ts
    all_left ts left = subst (λ zs. AllLeft behaviour registers (firsts os) zs ts) (sym (workers_are behaviour registers pending (length ss) client qs rest (long ∙ many))) left
