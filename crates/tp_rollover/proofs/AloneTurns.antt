-- Two calls of one pass with no look together between them.
use Rattle.std.proofs.Common.{◌≡◌, ℕ, suc, List, [], ◌∷◌, length, map, refl, sym, ◌∙◌, ap}
use Rattle.tp_model.specs.declared.types.Claimed.{Claimed}
use Rattle.tp_model.specs.declared.types.Claimed.TheVariants as claimeds
use Rattle.tp_model.specs.declared.types.Limits.{Limits}
use Rattle.tp_model.specs.declared.event.Event.{Event}
use Rattle.tp_manager.specs.Calls.{Follows}
use Rattle.tp_manager.specs.Shown.{KeeperShown, PassShown}
use Rattle.tp_plain.specs.Computed.{commit_of}
use Rattle.tp_plain.specs.OneThread.{State}
use Rattle.tp_rollover.specs.Middle.{AloneTurn, Between, as_seen}
use Rattle.tp_rollover.specs.Thread.{Alone}
use Rattle.tp_rollover.proofs.AloneClaims.{alone_claim}
use Rattle.tp_rollover.proofs.AloneCommits.{alone_commit}
use Rattle.tp_rollover.proofs.AloneMiddles.{alone_middle, mids}

module _ (l : Limits) (keeper keeper' : KeeperShown) (olds news : List PassShown) (h h' : List Event) (old new last : PassShown) (b : Between l keeper keeper' olds news h h' old new last) where
  long : (ps : List PassShown) → length (map (as_seen new.seen new.seen_blocks) ps) ≡ length ps
  long [] = refl
  long (p ∷ ps) = ap suc (long ps)

  -- the first call, up to the moment between
  pub first_alone : (n c : ℕ) → length b.front ≡ c → Follows n old new → Alone l keeper keeper olds (mids l keeper keeper' olds news h h' old new last b) h new.seen n c old new
  first_alone n c place follows = let m = alone_middle l keeper keeper' olds news h h' old new last b in record {
    before = b.before;
    front = b.front;
    back = b.back;
    olds_are = b.olds_are;
    place = place;
    limits = b.shown.limits;
    follows = follows;
    others = m.1;
    after = m.0;
  }

  -- and the second, from there on
  pub second_alone : (k c : ℕ) → length b.front ≡ c → Follows k new last → last.limits ≡ l → Alone l keeper keeper' (mids l keeper keeper' olds news h h' old new last b) news new.seen h' k c new last
  second_alone k c place follows limits = let m = alone_middle l keeper keeper' olds news h h' old new last b in record {
    before = m.0;
    front = map (as_seen new.seen new.seen_blocks) b.front;
    back = map (as_seen new.seen new.seen_blocks) b.back;
    olds_are = refl;
    place = long b.front ∙ place;
    limits = limits;
    follows = follows;
    others = m.2;
    after = b.after;
  }

pub alone_turn : AloneTurn
alone_turn l keeper keeper' olds news h h' old new last b n k c stage work drafts outcome place one two limits same still takes settles =
    let mid : List PassShown = mids l keeper keeper' olds news h h' old new last b in
    let x = alone_claim stage l keeper keeper olds mid h new.seen n c old new (claimeds.Work work) (first_alone l keeper keeper' olds news h h' old new last b n c place one) same takes in
    let y = alone_commit drafts l keeper keeper' mid news new.seen h' k c new last outcome (second_alone l keeper keeper' olds news h h' old new last b k c place two limits) still settles in
    (ap (λ p. p.0) (sym x), y ∙ ap (λ (p : Claimed × State). commit_of p.1 c drafts) x)
