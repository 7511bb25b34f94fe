-- Two passes meet, by a join, a load and a split.
use Rattle.std.proofs.Common.{◌≡◌, ◌⊎◌, [], ◌∷◌, ◌++◌, map, sym, ap, ◌∙◌, subst, inl, inr, ⊎_elim}
use mathlib.Core.List.{IsPrefix}
use Rattle.tp_model.specs.declared.trace.StepKind.TheVariants as kinds
use Rattle.tp_model.specs.declared.types.Limits.{Limits}
use Rattle.tp_model.specs.History.{In, here, there, events_by}
use Rattle.tp_model.specs.Passes.{AreEnded, IsOwnOpen, IsRun}
use Rattle.tp_model.proofs.Bridges.{in_left, in_right}
use Rattle.tp_model.specs.Steps.{IsLegal}
use Rattle.tp_rule.specs.Steps.{Grew, IsSo, Knows, SeatsMeet, front_of, joined, kept, looked, noted, parted, rest_of, unchanged}
use Rattle.tp_rule.specs.Views.{IsOnePass, first_hand, hand}
use Rattle.tp_rule.specs.declared.view.Hand.{Hand}
use Rattle.tp_rule.specs.declared.view.Known.{Known}
use Rattle.tp_rule.specs.declared.view.View.{View}
use Rattle.tp_rule.proofs.Reading.{grew_begins}

module _ (v w j m x y : View) (one : IsOnePass v) (other : IsOnePass w) (join : j ≡ joined v w) (g : Grew kinds.Load unchanged [] j m) (first : x ≡ kept m) (second : y ≡ parted m) where
  abbrev A : Hand
  A = noted kinds.Load m.seen (noted kinds.SeatLoad v.seen (hand v))

  abbrev B : Hand
  B = noted kinds.Load m.seen (hand w)

  join_hands : j.hands ≡ noted kinds.SeatLoad v.seen (hand v) ∷ hand w ∷ []
  join_hands = ap (λ (z : View). z.hands) join ∙ (ap (λ hs. looked v hs ++ w.hands) one ∙ ap (λ hs. noted kinds.SeatLoad v.seen (hand v) ∷ hs) other)

  met_hands : m.hands ≡ A ∷ B ∷ []
  met_hands = ap (λ (z : View). z.hands) g.view ∙ ap (map (λ a. noted kinds.Load m.seen a)) join_hands

  limits_met : m.limits ≡ v.limits
  limits_met = ap (λ (z : View). z.limits) g.view ∙ ap (λ (z : View). z.limits) join

  first_seen : x.seen ≡ m.seen
  first_seen = ap (λ (z : View). z.seen) first

  second_seen : y.seen ≡ m.seen
  second_seen = ap (λ (z : View). z.seen) second

  first_hands : x.hands ≡ noted kinds.SeatLoad m.seen A ∷ []
  first_hands = ap (λ (z : View). z.hands) first ∙ ap (λ hs. looked m (front_of hs)) met_hands

  second_hands : y.hands ≡ B ∷ []
  second_hands = ap (λ (z : View). z.hands) second ∙ ap rest_of met_hands

  first_is : hand x ≡ noted kinds.SeatLoad m.seen A
  first_is = ap first_hand first_hands

  second_is : hand y ≡ B
  second_is = ap first_hand second_hands

  first_in : In A m.hands
  first_in = subst (In A) (sym met_hands) here

  second_in : In B m.hands
  second_in = subst (In B) (sym met_hands) (there here)

  known_met : (z : Known) → In z (v.known ++ w.known) → Knows m z
  known_met z o = g.knows z (subst (λ (u : View). Knows u z) (sym join) o)

  so_met : (z : Known) → Knows m z → IsSo v.limits m.seen z
  so_met z o = subst (λ (l : Limits). IsSo l m.seen z) (ap (λ (z : View). z.limits) join) (g.is_so z o)

  -- the run of one of the two
  run_met : (z : View) (a : Hand) → z.seen ≡ m.seen → In a m.hands → hand z ≡ a ⊎ hand z ≡ noted kinds.SeatLoad m.seen a → IsRun v.limits z.seen (hand z).number (hand z).blocks (hand z).next (hand z).left
  run_met z a seen p is = let old : IsRun v.limits z.seen a.number a.blocks a.next a.left = subst (λ (l : Limits). IsRun l z.seen a.number a.blocks a.next a.left) (ap (λ (u : View). u.limits) join) (subst (λ h. IsRun j.limits h a.number a.blocks a.next a.left) (sym seen) (g.run a p)) in ⊎_elim
      (λ e. subst (λ (b : Hand). IsRun v.limits z.seen b.number b.blocks b.next b.left) (sym e) old)
      (λ e. subst (λ (b : Hand). IsRun v.limits z.seen b.number b.blocks b.next b.left) (sym e) old) is

  pub meets : SeatsMeet v w x y
  meets = record {
    same = first_seen ∙ sym second_seen;
    legal = subst (λ (z : Limits). IsLegal z x.seen) (ap (λ (z : View). z.limits) join) (subst (IsLegal j.limits) (sym first_seen) g.legal);
    first_saw = subst (IsPrefix v.seen) (sym first_seen) (subst (λ h. IsPrefix h m.seen) (ap (λ (z : View). z.seen) join) (grew_begins kinds.Load unchanged [] j m g));
    second_saw = subst (IsPrefix w.seen) (sym first_seen) (subst (λ h. IsPrefix h m.seen) (ap (λ (z : View). z.also_seen) join) g.also_seen);
    first_one = first_hands ∙ ap (λ (a : Hand). a ∷ []) (sym first_is);
    first_is = first_is ∙ ap (λ h. noted kinds.SeatLoad h (noted kinds.Load h (noted kinds.SeatLoad v.seen (hand v)))) (sym first_seen);
    second_one = second_hands ∙ ap (λ (a : Hand). a ∷ []) (sym second_is);
    second_is = second_is ∙ ap (λ h. noted kinds.Load h (hand w)) (sym first_seen);
    limits = (ap (λ (z : View). z.limits) first ∙ limits_met, ap (λ (z : View). z.limits) second ∙ limits_met);
    mine = (
      ap (λ (a : Hand). a.mine) first_is ∙ (g.mine A first_in ∙ (ap (events_by A.number) (sym first_seen) ∙ ap (λ (a : Hand). events_by a.number x.seen) (sym first_is))),
      ap (λ (a : Hand). a.mine) second_is ∙ (g.mine B second_in ∙ (ap (events_by B.number) (sym second_seen) ∙ ap (λ (a : Hand). events_by a.number y.seen) (sym second_is))),
    );
    open_own = (
      (λ u is. subst (λ (a : Hand). IsOwnOpen x.seen a.number u) (sym first_is) (subst (λ h. IsOwnOpen h A.number u) (sym first_seen) (g.open_own A first_in u (sym (ap (λ (a : Hand). a.open_unit) first_is) ∙ is)))),
      (λ u is. subst (λ (a : Hand). IsOwnOpen y.seen a.number u) (sym second_is) (subst (λ h. IsOwnOpen h B.number u) (sym second_seen) (g.open_own B second_in u (sym (ap (λ (a : Hand). a.open_unit) second_is) ∙ is)))),
    );
    ended = (
      subst (λ (a : Hand). AreEnded x.seen a.number a.open_unit) (sym first_is) (subst (λ h. AreEnded h A.number A.open_unit) (sym first_seen) (g.ended A first_in)),
      subst (λ (a : Hand). AreEnded y.seen a.number a.open_unit) (sym second_is) (subst (λ h. AreEnded h B.number B.open_unit) (sym second_seen) (g.ended B second_in)),
    );
    run = (run_met x A first_seen first_in (inr first_is), run_met y B second_seen second_in (inl second_is));
    knows = (
      (λ z o. subst (λ (u : View). Knows u z) (sym first) (known_met z (in_left w.known o))),
      (λ z o. subst (λ (u : View). Knows u z) (sym second) (known_met z (in_right v.known o))),
    );
    is_so = (
      (λ z o. subst (λ h. IsSo v.limits h z) (sym first_seen) (so_met z (subst (λ (u : View). Knows u z) first o))),
      (λ z o. subst (λ h. IsSo v.limits h z) (sym second_seen) (so_met z (subst (λ (u : View). Knows u z) second o))),
    );
  }
