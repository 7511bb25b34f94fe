-- What a pass did between two looks together, in two halves, where the second may have drawn a spare block.
use Rattle.std.proofs.Common.{◌≡◌, ◌⊎◌, ℕ, suc, ◌<◌, ◌≤◌, List, [], ◌∷◌, length, map, refl, sym, ◌∙◌, ap, subst, inl, inr, ⊎_elim, arith}
use Rattle.tp_model.specs.declared.types.Limits.{Limits}
use Rattle.tp_model.specs.declared.types.Ended.{Ended}
use Rattle.tp_model.specs.declared.types.Ended.TheVariants as endeds
use Rattle.tp_model.specs.declared.types.Outcome.{Outcome}
use Rattle.tp_model.specs.declared.types.Outcome.TheVariants as outcomes
use Rattle.tp_model.specs.declared.types.Work.{Work}
use Rattle.tp_model.specs.declared.event.Event.{Event}
use Rattle.tp_model.specs.Drafts.{DraftView}
use Rattle.tp_model.specs.History.{In, here}
use Rattle.tp_model.proofs.Bridges.{begins_trans, in_either, in_left, in_one, in_right}
use Rattle.tp_server.specs.Behaviour.{Behaviour}
use Rattle.tp_manager.specs.Calls.{AnswersAbort, Follows, Settles, UsesRows, opening}
use Rattle.tp_manager.specs.Shown.{KeeperShown, PassShown}
use Rattle.tp_server.specs.declared.turned.Turned.{Turned}
use Rattle.tp_server.specs.declared.turned.Turned.TheVariants as turneds
use Rattle.tp_desk.specs.Turns.{WorksOff}
use Rattle.tp_rollover.specs.Middle.{Between, Goes, as_seen}
use Rattle.tp_rollover.specs.Thread.{HasSeen}
use Rattle.tp_rollover.proofs.AloneMiddles.{alone_middle, mids}
use Rattle.tp_exact.specs.Acts.{Acts}
use Rattle.tp_exact.proofs.Parts.{Went, goes}

-- its blocks are those that it had, and ones that it hadn't seen drawn
abbrev pub DrawsLater : PassShown → PassShown → Type 0
DrawsLater old new = ((b : ℕ) → In b old.blocks → In b new.blocks)
    × ((b : ℕ) → In b new.blocks → In b old.blocks ⊎ (old.seen_blocks ≤ b))

draws_none : (old new : PassShown) → new.blocks ≡ old.blocks → DrawsLater old new
draws_none old new same = (λ b p. subst (In b) (sym same) p, λ b p. inl (subst (In b) same p))

draws_rows : (k row : ℕ) (old new : PassShown) → UsesRows k row old new → DrawsLater old new
draws_rows k row old new uses = ⊎_elim
    (λ run. draws_none old new run.blocks)
    (λ block. (
      λ b p. subst (In b) (sym block.blocks) (in_left (block.block ∷ []) p),
      λ b p. ⊎_elim (λ was. inl was) (λ is. inr (subst (λ n. old.seen_blocks ≤ n) (sym (in_one is)) block.fresh)) (in_either old.blocks (block.block ∷ []) (subst (In b) block.blocks p)),
    ))
    uses

draws_settled : (drafts : List DraftView) (old new : PassShown) (outcome : Outcome) → Settles drafts old new outcome → DrawsLater old new
draws_settled drafts old new (outcomes.Committed first count) says = draws_rows (length drafts) says.row old new says.run
draws_settled drafts old new outcomes.Lost says = draws_rows (length drafts) says.2 old new says.3
draws_settled drafts old new outcomes.Full says = draws_none old new says.2.2.2

draws_ended : (ended : Ended) (old new : PassShown) → AnswersAbort old new ended → DrawsLater old new
draws_ended endeds.Aborted old new says = draws_none old new says.2.2
draws_ended endeds.AlreadyAborted old new says = draws_none old new says.2.2

-- so it is of work that is worked off
pub draws_off : (behaviour : Behaviour) (registers : List ℕ) (work : Work) (old new : PassShown) (turned : Turned) (left : List ℕ) → WorksOff behaviour registers work old new turned left → DrawsLater old new
draws_off behaviour registers work old new turneds.Idle left off = absurd off
draws_off behaviour registers work old new turneds.NoUnit left off = absurd off
draws_off behaviour registers work old new (turneds.Done unit element first count) left (a, b, (effect, allowed, settles, is)) = draws_settled effect.drafts old new (outcomes.Committed first count) settles
draws_off behaviour registers work old new (turneds.Refused element why) left (a, (allowed, (ended, ends)), is) = draws_ended ended old new ends
draws_off behaviour registers work old new (turneds.Lost element) left (a, (effect, allowed, settles, is)) = draws_settled effect.drafts old new outcomes.Lost settles
draws_off behaviour registers work old new (turneds.Full element) left (a, (effect, allowed, settles, is)) = draws_settled effect.drafts old new outcomes.Full settles

pub goes_later : (n : ℕ) (old new : PassShown) → Follows n old new → DrawsLater old new → Goes old new
goes_later n old new f draws = record {
  number = f.number;
  sees = begins_trans old.seen (opening old new) new.seen f.opened f.closed;
  kept = draws.0;
  later = draws.1;
  drawn = f.drawn;
}

module _ (l : Limits) (keeper keeper' : KeeperShown) (olds news : List PassShown) (h h' : List Event) (c : ℕ) (old new last : PassShown)
    (a : Acts l keeper keeper' olds news h h' c old last) (first : Went old new) (shows : HasSeen l new.seen new) (rest : Goes new last) where
  pub old_here : In old olds
  old_here = subst (In old) (sym a.olds_are) (in_right a.front here)

  abbrev pub half_way : Between l keeper keeper' olds news h h' old new last
  half_way = record {
    before = a.before;
    front = a.front;
    back = a.back;
    olds_are = a.olds_are;
    first = goes old new first;
    shown = shows;
    below = λ b p. (
        let low : b < _ = a.before.drawn.inside old b old_here (subst (In b) first.blocks p) in
        let all = a.before.drawn.seen old old_here in
        let more = first.drawn in
        omega arith);
    rest = rest;
    others = a.others;
    after = a.after;
  }

  long : (ps : List PassShown) → length (map (as_seen new.seen new.seen_blocks) ps) ≡ length ps
  long [] = refl
  long (p ∷ ps) = ap suc (long ps)

  abbrev pub half : List PassShown
  half = mids l keeper keeper' olds news h h' old new last half_way

  pub first_half : Acts l keeper keeper olds half h new.seen c old new
  first_half = let m = alone_middle l keeper keeper' olds news h h' old new last half_way in record {
    before = a.before;
    front = a.front;
    back = a.back;
    olds_are = a.olds_are;
    place = a.place;
    others = m.1;
    after = m.0;
  }

  pub last_half : Acts l keeper keeper' half news new.seen h' c new last
  last_half = let m = alone_middle l keeper keeper' olds news h h' old new last half_way in record {
    before = m.0;
    front = map (as_seen new.seen new.seen_blocks) a.front;
    back = map (as_seen new.seen new.seen_blocks) a.back;
    olds_are = refl;
    place = long a.front ∙ a.place;
    others = m.2;
    after = a.after;
  }
