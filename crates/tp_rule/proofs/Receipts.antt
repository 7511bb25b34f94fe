-- A receipt is left by a split, and followed by a join and a load.
use Rattle.std.proofs.Common.{◌≡◌, [], ◌∷◌, ◌++◌, map, sym, ap, ◌∙◌, subst}
use mathlib.Core.List.{IsPrefix}
use Rattle.tp_model.specs.declared.trace.StepKind.TheVariants as kinds
use Rattle.tp_model.specs.declared.types.Limits.{Limits}
use Rattle.tp_model.specs.History.{In, here}
use Rattle.tp_model.specs.Passes.{IsRun}
use Rattle.tp_model.specs.Steps.{IsLegal}
use Rattle.tp_model.proofs.Bridges.{in_left}
use Rattle.tp_rule.specs.Receipts.{IsReceipt, SeatFollows, SeatLeaves}
use Rattle.tp_rule.specs.Steps.{Grew, IsSo, Knows, front_of, joined, kept, looked, noted, parted, rest_of, unchanged, with_hands}
use Rattle.tp_rule.specs.Views.{IsOnePass, first_hand, hand}
use Rattle.tp_rule.specs.declared.view.Hand.{Hand}
use Rattle.tp_rule.specs.declared.view.View.{View}
use Rattle.tp_rule.proofs.Reading.{grew_begins}

pub leaves : (v w r : View) → IsOnePass v → w ≡ kept v → r ≡ parted v → SeatLeaves v w r
leaves v w r one keeps parts = record {
  stays = keeps ∙ ap (λ hs. with_hands (looked v hs) v) (ap front_of one ∙ sym one);
  leaves = parts ∙ ap (λ hs. with_hands hs v) (ap rest_of one);
}

module _ (v r j m : View) (one : IsOnePass v) (none : IsReceipt r) (join : j ≡ joined v r) (g : Grew kinds.Load unchanged [] j m) where
  abbrev A : Hand
  A = noted kinds.Load m.seen (noted kinds.SeatLoad v.seen (hand v))

  join_hands : j.hands ≡ noted kinds.SeatLoad v.seen (hand v) ∷ []
  join_hands = ap (λ (z : View). z.hands) join ∙ (ap (λ hs. looked v hs ++ r.hands) one ∙ ap (λ hs. noted kinds.SeatLoad v.seen (hand v) ∷ hs) none)

  after_hands : m.hands ≡ A ∷ []
  after_hands = ap (λ (z : View). z.hands) g.view ∙ ap (map (λ a. noted kinds.Load m.seen a)) join_hands

  is : hand m ≡ A
  is = ap first_hand after_hands

  limits : j.limits ≡ v.limits
  limits = ap (λ (z : View). z.limits) join

  mine_in : In (hand m) m.hands
  mine_in = subst (λ hs. In (hand m) hs) (sym after_hands) (subst (λ a. In a (A ∷ [])) (sym is) here)

  pub follows : SeatFollows v r m
  follows = record {
    legal = subst (λ (z : Limits). IsLegal z m.seen) limits g.legal;
    own_saw = subst (λ h. IsPrefix h m.seen) (ap (λ (z : View). z.seen) join) (grew_begins kinds.Load unchanged [] j m g);
    receipt_saw = subst (λ h. IsPrefix h m.seen) (ap (λ (z : View). z.also_seen) join) g.also_seen;
    one = after_hands ∙ ap (λ (a : Hand). a ∷ []) (sym is);
    is = is;
    limits = ap (λ (z : View). z.limits) g.view ∙ limits;
    mine = g.mine (hand m) mine_in;
    open_own = g.open_own (hand m) mine_in;
    ended = g.ended (hand m) mine_in;
    run = subst (λ (z : Limits). IsRun z m.seen (hand m).number (hand m).blocks (hand m).next (hand m).left) limits (g.run (hand m) mine_in);
    knows = λ z o. g.knows z (subst (λ (u : View). Knows u z) (sym join) (in_left r.known o));
    is_so = λ z o. subst (λ (l : Limits). IsSo l m.seen z) limits (g.is_so z o);
  }
