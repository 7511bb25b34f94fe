-- What a pass did between two looks together, in parts.
use Rattle.std.proofs.Common.{◌≡◌, ℕ, suc, ◌<◌, ◌≤◌, List, [], ◌∷◌, ◌++◌, length, map, refl, sym, ◌∙◌, ap, subst, inl, arith}
use Rattle.std.specs.List.{AllZip}
use mathlib.Core.List.{IsPrefix}
use Rattle.tp_model.specs.declared.types.Limits.{Limits}
use Rattle.tp_model.specs.declared.event.Event.{Event}
use Rattle.tp_model.specs.History.{In, here}
use Rattle.tp_model.specs.Passes.{IsPassView}
use Rattle.tp_model.proofs.Bridges.{append_nil, begins_trans, in_right}
use Rattle.tp_manager.specs.Calls.{Follows, opening}
use Rattle.tp_manager.specs.Shown.{KeeperShown, PassShown, view_in}
use Rattle.tp_rollover.specs.Middle.{Between, Goes, as_seen}
use Rattle.tp_rollover.specs.Thread.{Alone, HasSeen, Stays, thread_of}
use Rattle.tp_rollover.proofs.AloneIdle.{alone_idle}
use Rattle.tp_rollover.proofs.AloneMiddles.{alone_middle, mids}
use Rattle.tp_commands.specs.Asked.{Called}
use Rattle.tp_exact.specs.Acts.{Acts}

-- the pass went on, and drew no spare block
pub record Went (old new : PassShown) : Type 0 where
  pub number : new.number ≡ old.number
  pub sees : IsPrefix old.seen new.seen
  pub blocks : new.blocks ≡ old.blocks
  pub drawn : old.seen_blocks ≤ new.seen_blocks

pub went_none : (old new : PassShown) → new ≡ old → Went old new
went_none old new same = subst (λ z. Went old z) (sym same) (record { number = refl; sees = ([], append_nil old.seen); blocks = refl; drawn = omega arith })

pub went_on : (old mid new : PassShown) → Went old mid → Went mid new → Went old new
went_on old mid new a b = record {
  number = b.number ∙ a.number;
  sees = begins_trans old.seen mid.seen new.seen a.sees b.sees;
  blocks = b.blocks ∙ a.blocks;
  drawn = let x = a.drawn in let y = b.drawn in omega arith;
}

pub went_by : (n : ℕ) (old new : PassShown) → Follows n old new → new.blocks ≡ old.blocks → Went old new
went_by n old new f same = record {
  number = f.number;
  sees = begins_trans old.seen (opening old new) new.seen f.opened f.closed;
  blocks = same;
  drawn = f.drawn;
}

pub goes : (old new : PassShown) → Went old new → Goes old new
goes old new w = record {
  number = w.number;
  sees = w.sees;
  kept = λ b p. subst (In b) (sym w.blocks) p;
  later = λ b p. inl (subst (In b) w.blocks p);
  drawn = w.drawn;
}

-- what a pass shows that made a call
pub seen_by : (l : Limits) (n : ℕ) (old new : PassShown) → Called l n old new → HasSeen l new.seen new
seen_by l n old new f = record { limits = f.limits; seen = refl; shows = subst (λ (m : Limits). IsPassView m (view_in new)) f.limits f.follows.shows }

module _ (l : Limits) (keeper keeper' : KeeperShown) (olds news : List PassShown) (h h' : List Event) (c : ℕ) where
  -- one call alone
  pub whole : (n : ℕ) (old new : PassShown) → Acts l keeper keeper' olds news h h' c old new → Called l n old new → Alone l keeper keeper' olds news h h' n c old new
  whole n old new a f = record {
    before = a.before;
    front = a.front;
    back = a.back;
    olds_are = a.olds_are;
    place = a.place;
    limits = f.limits;
    follows = f.follows;
    others = a.others;
    after = a.after;
  }

  -- no call
  pub idle : (old new : PassShown) → Acts l keeper keeper' olds news h h' c old new → new ≡ old → thread_of l news h' ≡ thread_of l olds h
  idle old new a same =
      let were : a.front ++ new ∷ a.back ≡ olds = ap (λ p. a.front ++ p ∷ a.back) same ∙ sym a.olds_are in
      (alone_idle l keeper keeper' olds news h h' a.before (subst (λ ps. AllZip Stays ps news) were a.others) a.after).1

  -- what the pass showed at first
  pub old_shows : (old new : PassShown) → Acts l keeper keeper' olds news h h' c old new → HasSeen l old.seen old
  old_shows old new a =
      let p = a.before.each old (subst (In old) (sym a.olds_are) (in_right a.front here)) in
      record { limits = p.limits; seen = refl; shows = p.shows }

-- two parts
module _ (l : Limits) (keeper keeper' : KeeperShown) (olds news : List PassShown) (h h' : List Event) (c : ℕ) (old new last : PassShown)
    (a : Acts l keeper keeper' olds news h h' c old last) (first : Went old new) (shows : HasSeen l new.seen new) (rest : Went new last) where
  pub old_in : In old olds
  old_in = subst (In old) (sym a.olds_are) (in_right a.front here)

  abbrev pub between : Between l keeper keeper' olds news h h' old new last
  between = record {
    before = a.before;
    front = a.front;
    back = a.back;
    olds_are = a.olds_are;
    first = goes old new first;
    shown = shows;
    below = λ b p. (
        let low : b < _ = a.before.drawn.inside old b old_in (subst (In b) first.blocks p) in
        let all = a.before.drawn.seen old old_in in
        let more = first.drawn in
        omega arith);
    rest = goes new last rest;
    others = a.others;
    after = a.after;
  }

  long : (ps : List PassShown) → length (map (as_seen new.seen new.seen_blocks) ps) ≡ length ps
  long [] = refl
  long (p ∷ ps) = ap suc (long ps)

  abbrev pub middle : List PassShown
  middle = mids l keeper keeper' olds news h h' old new last between

  pub first_part : Acts l keeper keeper olds middle h new.seen c old new
  first_part = let m = alone_middle l keeper keeper' olds news h h' old new last between in record {
    before = a.before;
    front = a.front;
    back = a.back;
    olds_are = a.olds_are;
    place = a.place;
    others = m.1;
    after = m.0;
  }

  pub last_part : Acts l keeper keeper' middle news new.seen h' c new last
  last_part = let m = alone_middle l keeper keeper' olds news h h' old new last between in record {
    before = m.0;
    front = map (as_seen new.seen new.seen_blocks) a.front;
    back = map (as_seen new.seen new.seen_blocks) a.back;
    olds_are = refl;
    place = long a.front ∙ a.place;
    others = m.2;
    after = a.after;
  }
