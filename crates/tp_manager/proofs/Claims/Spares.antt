-- Looks at the rows of the spare blocks, and rows that are left behind.
use Rattle.tp_manager.proofs.Calls.Passes.{cleared_later}
use Rattle.std.proofs.Common.{◌≡◌, ℕ, suc, ◌+◌, ◌*◌, ◌<◌, ◌≤◌, List, [], ◌∷◌, ◌++◌, MatchOption, Option, Some, None, sym, refl, ap, ◌∙◌, subst, inl, inr, ⊎_elim, arith, suc-mul, mul-le-mul_right}
use mathlib.Core.Logic.{dite}
use native.Mathlib.Decide.{dec_le}
use mathlib.Core.List.{IsPrefix}
use Rattle.tp_model.specs.declared.event.Event.{Event}
use Rattle.tp_model.specs.declared.types.Limits.{Limits}
use Rattle.tp_model.specs.declared.trace.StepKind.TheVariants as kinds
use Rattle.tp_model.specs.History.{In, here, there}
use Rattle.tp_model.specs.Passes.{Ascend, IsOwnArea, opening_of}
use Rattle.tp_model.specs.Steps.{block_first}
use Rattle.tp_model.proofs.Areas.{area_inside, ascend_in, own_area}
use Rattle.tp_model.proofs.Bridges.{begins_refl, in_cons, in_left, in_none, in_right}
use Rattle.tp_rule.specs.Steps.{IsLeftBehind, IsSo, Knows, Voids, unchanged, HasCleared}
use Rattle.tp_rule.specs.Views.{hand}
use Rattle.tp_rule.specs.declared.view.Hand.{Hand}
use Rattle.tp_rule.specs.declared.view.Known.{Known}
use Rattle.tp_rule.specs.declared.view.Known.TheVariants.{RowHead}
use Rattle.tp_rule.specs.declared.view.View.{View}
use Rattle.tp_manager.specs.Finds.{Hits, PassedOver}
use Rattle.tp_manager.specs.Spares.{AreHeaded, AreLeft, Passed}
use Rattle.tp_manager.specs.CallSteps.{Acted, Steady, Tried, with_trace}
use Rattle.tp_manager.specs.Scans.{Begun, EachRow, PassedBy, Sought, Took}
use Rattle.tp_manager.specs.Drafts.{Drew}
use Rattle.tp_manager.specs.declared.seeker.Taken.{Taken}
use Rattle.tp_manager.proofs.Rows.Finds.{over_widens}
use Rattle.tp_manager.proofs.Claims.Scans.{passed_widens, took_behind, took_few}
use Rattle.tp_manager.proofs.Rows.Seeks.{Widens}
use Rattle.tp_manager.proofs.Calls.Unseen.{unseen_hand, unseen_seen, unseen_steady, unseen_walked}
use Rattle.tp_manager.proofs.Calls.CallSteps.{acted_then, looked, opening_first, sought_by, sought_few, walked_begins, walked_then}

module _ (l : Limits) (P : ℕ → List Event → List Event → Type 0) (widens : Widens P) where
  -- rows that were passed after a look
  pub passed_sought : (m from top : ℕ) (v w y : View) → Acted l 1 v w → Passed l m P from top w y → Sought l (1 + m) (EachRow P from top) v y
  passed_sought m from top v w y a p = sought_by l (1 + m) (EachRow P from top) v y (acted_then l 1 m v w y a p.0)
      (λ i low high. widens i (opening_of v.seen (a.marks ++ p.0.marks)) w.seen y.seen y.seen (subst (λ o. IsPrefix o w.seen) (sym (opening_first l 1 m v w y a p.0)) a.walk.closes) (begins_refl y.seen) (p.1 i low high))

  -- rows that were passed, and others after them that were so before
  pub sought_passed : (n from k top : ℕ) (v w : View) → Sought l n (EachRow P from k) v w → ((i : ℕ) → k ≤ i → i < top → P i v.seen v.seen) → Passed l n P from top v w
  sought_passed n from k top v w s behind = (
    record { marks = s.marks; walk = s.walk; kept = s.kept },
    λ i low high. dite (dec_le k i)
        (λ past. widens i v.seen v.seen v.seen w.seen (begins_refl v.seen) (walked_begins l n s.marks v w s.walk) (behind i past high))
        (λ not. widens i v.seen (opening_of v.seen s.marks) w.seen w.seen s.walk.opens (begins_refl w.seen) (s.passed i low (omega arith))),
  )

-- what a look at the spare rows came to, after the load of the counter of drawn blocks
pub scan_drawn : (l : Limits) (stage u m k from top : ℕ) (v w y : View) (o : Option Taken) → 1 + m ≤ k → Acted l 1 v w
    → MatchOption o (Passed l m (PassedBy l stage) from top w y) (λ (t : Taken). Took l m from stage u w y t.element t.attempt × (t.element.root ≡ t.root))
    → MatchOption o (Begun l (PassedBy l stage) k from top v y) (λ (t : Taken). Took l k from stage u v y t.element t.attempt × (t.element.root ≡ t.root))
scan_drawn l stage u m k from top v w y None le a p = inr (sought_few l (1 + m) k (EachRow (PassedBy l stage) from top) v y le (passed_sought l (PassedBy l stage) (passed_widens l stage) m from top v w y a p))
scan_drawn l stage u m k from top v w y (Some t) le a p = (took_few l stage u t.attempt t.element (1 + m) k from v y le (took_behind l stage u t.attempt t.element 1 m from v w y (looked l 1 v w a) p.0), p.1)

pub find_drawn : (l : Limits) (m k from top : ℕ) (v w y : View) (o : Option ℕ) → 1 + m ≤ k → Acted l 1 v w
    → MatchOption o (Passed l m (PassedOver l) from top w y) (λ id. (from ≤ id) × (id < top) × Hits l id y.seen × Passed l m (PassedOver l) from id w y)
    → MatchOption o (Begun l (PassedOver l) k from top v y) (λ id. (from ≤ id) × (id < top) × Hits l id y.seen × Sought l k (EachRow (PassedOver l) from id) v y)
find_drawn l m k from top v w y None le a p = inr (sought_few l (1 + m) k (EachRow (PassedOver l) from top) v y le (passed_sought l (PassedOver l) (over_widens l) m from top v w y a p))
find_drawn l m k from top v w y (Some id) le a p = (p.0, p.1, p.2, sought_few l (1 + m) k (EachRow (PassedOver l) from id) v y le (passed_sought l (PassedOver l) (over_widens l) m from id v w y a p.3))

-- the last of numbers that ascend is above the others
ascend_last : (low high b n : ℕ) (ns : List ℕ) → Ascend low high (ns ++ b ∷ []) → In n ns → n < b
ascend_last low high b n [] up p = absurd (in_none p)
ascend_last low high b n (m ∷ ns) up p = ⊎_elim (λ same. let past = (ascend_in (m + 1) high (ns ++ b ∷ []) b up.2 (in_right ns here)).0 in omega arith) (λ q. ascend_last (m + 1) high b n ns up.2 q) (in_cons p)

module _ (l : Limits) where
  -- the exchange of the head of a row that is left behind
  pub voids_tried : (i : ℕ) (v w : View) → Steady l v → Voids v i w → Tried l 1 v w
  voids_tried i v w s d =
      let known : List Known = RowHead i d.0 ∷ v.known in
      let h = unseen_hand l kinds.Void unchanged known v w s d.2 in
      let so : IsSo l v.seen (RowHead i d.0) = subst (λ (z : Limits). IsSo z v.seen (RowHead i d.0)) s.pass.1 d.3 in
      let steady = unseen_steady l kinds.Void unchanged known v w s d.2 refl s.shows.run refl refl (λ x q. ⊎_elim (λ e. subst (IsSo l v.seen) (sym e) so) (λ o. s.known x o) (in_cons q)) in
      record {
        marks = record { kind = kinds.Void; seen = v.seen } ∷ [];
        walk = unseen_walked l kinds.Void unchanged known v w s d.2 refl refl refl (λ x q. there q) steady;
        hand_is = h ∙ ap (λ t. with_trace t (hand v)) (sym (ap (λ (a : Hand). a.trace) h));
        seen = unseen_seen l kinds.Void unchanged known v w s d.2;
      }

  -- which isn't empty by then
  pub voids_headed : (first k i : ℕ) (v w : View) → i ≡ first + k → Tried l 1 v w → Voids v i w → AreHeaded v first k → AreHeaded w first (k + 1)
  voids_headed first k i v w at t d old j low high = dite (dec_le (first + k) j)
      (λ past. let same : i ≡ j = omega arith in (d.0, d.1, subst (λ z. Knows w (RowHead z d.0)) same (subst (λ (z : View). Knows z (RowHead i d.0)) (sym d.2) here)))
      (λ not. let r = old j low (omega arith) in (r.0, r.1, t.walk.knows (RowHead j r.0) r.2))

  -- rows that are left behind stay so
  pub left_tried : (n first k : ℕ) (v w : View) → Tried l n v w → AreLeft l v first k → AreLeft l w first k
  left_tried n first k v w t left i low high = let r = left i low high in (r.0, subst (λ (a : Hand). IsLeftBehind l a i) (sym t.hand_is) r.1)

  -- what the pass left unused at last has heads still
  pub cleared_tried : (n : ℕ) (v w : View) → Tried l n v w → HasCleared v → HasCleared w
  cleared_tried n v w t r = cleared_later v w (ap (λ (z : Hand). z.passed_from) t.hand_is, ap (λ (z : Hand). z.passed_to) t.hand_is) t.walk.knows r

  -- and so has what it left as it drew a block, where all of that is known to have heads
  pub cleared_drew : (n m b : ℕ) (v w y : View) → Drew l n b v w → Tried l m w y → AreHeaded y (hand v).next (hand v).left → HasCleared y
  cleared_drew n m b v w y d t r i low high = let h = t.hand_is in let x = d.hand_is in
      let from : (hand y).passed_from ≡ (hand v).next = ap (λ (z : Hand). z.passed_from) h ∙ ap (λ (z : Hand). z.passed_from) x in
      let to : (hand y).passed_to ≡ (hand v).next + (hand v).left = ap (λ (z : Hand). z.passed_to) h ∙ ap (λ (z : Hand). z.passed_to) x in r i (omega arith) (omega arith)

  -- as a block is drawn, the rows of the old run are left behind
  pub left_behind : (n b : ℕ) (v w : View) → Steady l v → Drew l n b v w → AreLeft l w (hand v).next (hand v).left
  left_behind n b v w s d i low high = let r = s.shows.run in let a : Hand = hand v in let begins = r.begins in let ends = r.ends in
      let up : Ascend 0 l.spare (a.blocks ++ b ∷ []) = subst (λ (z : Hand). Ascend 0 l.spare z.blocks) d.hand_is d.walk.steady.shows.run.drawn in
      let own : IsOwnArea l a.number (a.blocks ++ b ∷ []) r.first r.end = ⊎_elim (λ p. inl p) (λ t. inr (t.0, in_left (b ∷ []) t.1, t.2)) r.own in
      let top = area_inside l r.first r.end (own_area l a.number a.blocks r.first r.end r.own) in (
        omega arith,
        subst (λ (z : Hand). IsLeftBehind l z i) (sym d.hand_is) (
          r.first,
          r.end,
          own,
          omega arith,
          omega arith,
          λ same. ⊎_elim
              (λ p. let below : a.number < l.parts = p.0 in let end : r.end ≡ a.number * l.rows + l.rows = p.2 in let all : suc a.number * l.rows ≤ l.parts * l.rows = mul-le-mul_right l.rows below in absurd (omega (arith, suc-mul a.number l.rows)))
              (λ t. let before = ascend_last 0 l.spare b t.0 a.blocks up t.1 in let end : r.end ≡ block_first l t.0 + 8 = t.2.2 in absurd (omega arith)) r.own,
        ),
      )

  -- a block that is drawn, and steps of which nothing hangs after
  pub drew_tried : (n m b : ℕ) (v w y : View) → Drew l n b v w → Tried l m w y → Drew l (n + m) b v y
  drew_tried n m b v w y d t = record {
    marks = d.marks ++ t.marks;
    walk = walked_then l n m d.marks t.marks v w y d.walk t.walk;
    hand_is = t.hand_is ∙ ap (λ z. with_trace (hand y).trace z) d.hand_is;
    seen = t.seen ∙ d.seen;
  }
