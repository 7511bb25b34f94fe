-- A pass that has left a receipt, and one that has followed one.
use Rattle.std.proofs.Common.{◌≡◌, [], ◌∷◌, ◌++◌, refl, sym, ap, ◌∙◌, subst, arith, append_assoc}
use mathlib.Core.List.{IsPrefix}
use Rattle.tp_model.specs.declared.trace.StepKind.TheVariants as kinds
use Rattle.tp_model.specs.declared.types.Limits.{Limits}
use Rattle.tp_model.specs.History.{here, there}
use Rattle.tp_model.specs.Passes.{IsRun}
use Rattle.tp_model.specs.Steps.{IsLegal}
use Rattle.tp_model.proofs.Bridges.{begins_refl}
use Rattle.tp_rule.specs.Receipts.{SeatFollows, SeatLeaves}
use Rattle.tp_rule.specs.Steps.{IsSo, looked, noted, with_hands}
use Rattle.tp_rule.specs.Views.{hand}
use Rattle.tp_rule.specs.declared.view.Hand.{Hand}
use Rattle.tp_rule.specs.declared.view.View.{View}
use Rattle.tp_manager.specs.Bounds.{follow_steps, receipt_steps}
use Rattle.tp_manager.specs.Meetings.{load, seat_load}
use Rattle.tp_manager.specs.Receipts.{FollowsReceipt, LeavesReceipt, ReceiptShown}
use Rattle.tp_manager.specs.Shown.{PassShown, Spot, shown}
use Rattle.tp_manager.specs.CallSteps.{Acted, Looked, Steady}
use Rattle.tp_manager.proofs.Accounts.Meetings.{steady_seen}

module _ (l : Limits) (v w r : View) (s : Steady l v) where
  -- the pass with one more load
  abbrev Left : View
  Left = with_hands (noted kinds.SeatLoad v.seen (hand v) ∷ []) v

  left_is : SeatLeaves v w r → w ≡ Left
  left_is m = m.stays ∙ ap (λ hs. with_hands (looked v hs) v) s.pass.0

  left_steady : Steady l Left
  left_steady = record {
    pass = (refl, s.pass.1);
    shows = record {
      given = s.shows.given;
      legal = s.shows.legal;
      own = s.shows.own;
      run = s.shows.run;
      open_own = s.shows.open_own;
      ended = s.shows.ended;
    };
    known = s.known;
  }

  left_looked : Looked l receipt_steps v Left
  left_looked = record {
    marks = seat_load v.seen ∷ [];
    walk = record { traced = refl; few = omega arith; opens = begins_refl v.seen; closes = begins_refl v.seen; number = refl; limits = s.pass.1; steady = left_steady; knows = λ x q. q };
    kept = refl;
  }

  -- what leaving a receipt is for the pass
  pub left : SeatLeaves v w r → Looked l receipt_steps v w
  left m = subst (Looked l receipt_steps v) (sym (left_is m)) left_looked

  -- and what it shows
  pub left_shown : (t t' : Spot) (old : PassShown) (receipt : ReceiptShown) → SeatLeaves v w r → shown t v ≡ old → t' ≡ t → r.seen ≡ receipt.seen → LeavesReceipt old (shown t' w) receipt
  left_shown t t' old receipt m is same left = record {
    seen = sym left ∙ (ap (λ (z : View). z.seen) m.leaves ∙ ap (λ (p : PassShown). p.seen) is);
    same = ap (λ z. shown z w) same ∙ (ap (shown t) (left_is m) ∙ ap (λ (p : PassShown). record p { trace = p.trace ++ seat_load p.seen ∷ [] }) is);
  }

  steady_then : SeatFollows v r w → Steady l w
  steady_then m = steady_seen l v w s m.one (m.limits ∙ s.pass.1) (subst (λ (z : Limits). IsLegal z w.seen) s.pass.1 m.legal) m.own_saw m.mine m.open_own m.ended (ap (λ (a : Hand). a.number) m.is)
      (subst (λ (z : Limits). IsRun z w.seen (hand w).number (hand w).blocks (hand w).next (hand w).left) s.pass.1 m.run)
      (λ z q. subst (λ (k : Limits). IsSo k w.seen z) s.pass.1 (m.is_so z q))

  then_trace : SeatFollows v r w → (hand w).trace ≡ (hand v).trace ++ seat_load v.seen ∷ load w.seen ∷ []
  then_trace m = ap (λ (a : Hand). a.trace) m.is ∙ append_assoc (hand v).trace (seat_load v.seen ∷ []) (load w.seen ∷ [])

  -- what following one is for the pass
  pub followed : SeatFollows v r w → Acted l follow_steps v w
  followed m = let h = m.is in record {
    marks = seat_load v.seen ∷ load w.seen ∷ [];
    walk = record { traced = then_trace m; few = omega arith; opens = m.own_saw; closes = begins_refl w.seen; number = ap (λ (a : Hand). a.number) h; limits = s.pass.1; steady = steady_then m; knows = m.knows };
    kept = h ∙ ap (λ t. record (hand v) { trace = t }) (sym (ap (λ (a : Hand). a.trace) h));
    step = (load w.seen, there here, refl);
  }

  abbrev shown_as : Spot → Limits → Hand → PassShown
  shown_as t limits a = record {
    table = t.table;
    limits = limits;
    number = a.number;
    seen = w.seen;
    mine = a.mine;
    open_unit = a.open_unit;
    next = a.next;
    left = a.left;
    blocks = a.blocks;
    trace = a.trace;
    lows = t.lows;
    seen_blocks = t.drawn;
    from = t.from;
  }

  -- and what it shows
  pub followed_shown : (t t' : Spot) (old : PassShown) (receipt : ReceiptShown) → SeatFollows v r w → shown t v ≡ old → t' ≡ t → r.seen ≡ receipt.seen → FollowsReceipt receipt old (shown t' w)
  followed_shown t t' old receipt m is same left = let h = m.is in let kept : hand w ≡ record (hand v) { trace = (hand v).trace ++ seat_load v.seen ∷ load w.seen ∷ [] } = h ∙ ap (λ t. record (hand v) { trace = t }) (append_assoc (hand v).trace (seat_load v.seen ∷ []) (load w.seen ∷ [])) in record {
    saw = subst (λ z. IsPrefix z w.seen) left m.receipt_saw;
    same = ap (λ z. shown_as z w.limits (hand w)) same ∙ (ap (λ z. shown_as t z (hand w)) m.limits ∙ (ap (shown_as t v.limits) kept
        ∙ ap (λ (p : PassShown). record p { seen = w.seen; trace = p.trace ++ seat_load p.seen ∷ load w.seen ∷ [] }) is));
  }
