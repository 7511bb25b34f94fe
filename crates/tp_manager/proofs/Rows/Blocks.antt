-- The exchange of the counter of drawn blocks.
use Rattle.std.proofs.Common.{◌≡◌, ℕ, ◌+◌, ◌<◌, ◌≤◌, [], ◌∷◌, ◌++◌, sym, refl, ap, ◌∙◌, subst, ⊎_elim, arith}
use mathlib.Core.Logic.{dite}
use native.Mathlib.Decide.{dec_le}
use Rattle.tp_model.specs.declared.types.Limits.{Limits}
use Rattle.tp_model.specs.declared.trace.StepKind.TheVariants as kinds
use Rattle.tp_model.specs.History.{here, there}
use Rattle.tp_model.specs.Passes.{IsRun}
use Rattle.tp_model.specs.Steps.{block_first}
use Rattle.tp_model.proofs.Bridges.{in_cons}
use Rattle.tp_rule.specs.Views.{hand}
use Rattle.tp_rule.specs.Steps.{Draws, DrawsNone, IsSo, Knows, drew, noted, unchanged, with_block}
use Rattle.tp_rule.specs.declared.view.Hand.{Hand}
use Rattle.tp_rule.specs.declared.view.Known.TheVariants.{BlocksDrawn}
use Rattle.tp_rule.specs.declared.view.View.{View}
use Rattle.tp_manager.specs.CallSteps.{Steady, Tried, Stepped, with_trace}
use Rattle.tp_manager.specs.BetweenCalls.{RemembersDrawn}
use Rattle.tp_manager.specs.Drafts.{Drew}
use Rattle.tp_manager.proofs.Calls.Unseen.{unseen_hand, unseen_limits, unseen_seen, unseen_steady, unseen_walked}
use Rattle.tp_manager.proofs.Calls.CallSteps.{walked_few, walked_none, walked_then}

module _ (l : Limits) (f : Hand → Hand) (n : ℕ) (v w : View) (s : Steady l v) (is : w ≡ drew f n v) where
  pub drew_hand : hand w ≡ noted kinds.Draw v.seen (f (hand v))
  drew_hand = unseen_hand l kinds.Draw f (BlocksDrawn n ∷ v.known) v w s is

  pub drew_seen : w.seen ≡ v.seen
  drew_seen = unseen_seen l kinds.Draw f (BlocksDrawn n ∷ v.known) v w s is

  -- this many are known to be drawn by then
  pub drew_remembers : n ≤ l.spare → RemembersDrawn w n
  drew_remembers inside = (subst (λ (z : Limits). n ≤ z.spare) (sym (unseen_limits l kinds.Draw f (BlocksDrawn n ∷ v.known) v w s is)) inside, λ some. subst (λ (z : View). Knows z (BlocksDrawn n)) (sym is) here)

  pub drew_steady : n ≤ l.spare → (f (hand v)).number ≡ (hand v).number → IsRun l v.seen (f (hand v)).number (f (hand v)).blocks (f (hand v)).next (f (hand v)).left → (f (hand v)).mine ≡ (hand v).mine → (f (hand v)).open_unit ≡ (hand v).open_unit → Steady l w
  drew_steady inside number run mine open_unit = unseen_steady l kinds.Draw f (BlocksDrawn n ∷ v.known) v w s is number run mine open_unit
      (λ x q. ⊎_elim (λ e. subst (IsSo l v.seen) (sym e) inside) (λ o. s.known x o) (in_cons q))

  pub drew_walked : (f (hand v)).number ≡ (hand v).number → (f (hand v)).trace ≡ (hand v).trace → Steady l w → Stepped l 1 (record { kind = kinds.Draw; seen = v.seen } ∷ []) v w
  drew_walked number trace steady = unseen_walked l kinds.Draw f (BlocksDrawn n ∷ v.known) v w s is refl number trace (λ x q. there q) steady

module _ (l : Limits) where
  -- a block that was drawn
  pub draws_drew : (b : ℕ) (v w : View) → Steady l v → b < l.spare → Draws v b w → Drew l 1 b v w × RemembersDrawn w (b + 1)
  draws_drew b v w s less d =
      let f : Hand → Hand = with_block b (block_first l b) in
      let is : w ≡ drew f (b + 1) v = subst (λ (z : Limits). w ≡ drew (with_block b (block_first z b)) (b + 1) v) s.pass.1 d.0 in
      let h = drew_hand l f (b + 1) v w s is in
      let run : IsRun l v.seen (f (hand v)).number (f (hand v)).blocks (f (hand v)).next (f (hand v)).left = subst (λ (a : Hand). IsRun l v.seen a.number a.blocks a.next a.left) h (subst (λ (z : Limits). IsRun z v.seen (hand w).number (hand w).blocks (hand w).next (hand w).left) s.pass.1 d.1) in
      let steady = drew_steady l f (b + 1) v w s is (omega arith) refl run refl refl in (
        record {
          marks = record { kind = kinds.Draw; seen = v.seen } ∷ [];
          walk = drew_walked l f (b + 1) v w s is refl refl steady;
          hand_is = h ∙ ap (λ t. with_trace t (f (hand v))) (sym (ap (λ (a : Hand). a.trace) h));
          seen = drew_seen l f (b + 1) v w s is;
        },
        drew_remembers l f (b + 1) v w s is (omega arith),
      )

  -- none was drawn, since more are drawn than was known
  pub none_tried : (b n : ℕ) (v w : View) → Steady l v → DrawsNone v b n w → Tried l 1 v w × RemembersDrawn w n
  none_tried b n v w s d =
      let inside : n ≤ l.spare = subst (λ (z : Limits). n ≤ z.spare) s.pass.1 d.inside in
      let h = drew_hand l unchanged n v w s d.view in
      let steady = drew_steady l unchanged n v w s d.view inside refl s.shows.run refl refl in (
        record {
          marks = record { kind = kinds.Draw; seen = v.seen } ∷ [];
          walk = drew_walked l unchanged n v w s d.view refl refl steady;
          hand_is = h ∙ ap (λ t. with_trace t (hand v)) (sym (ap (λ (a : Hand). a.trace) h));
          seen = drew_seen l unchanged n v w s d.view;
        },
        drew_remembers l unchanged n v w s d.view inside,
      )

  pub more_drawn : (b n : ℕ) (v w : View) → RemembersDrawn v b → DrawsNone v b n w → b < n
  more_drawn b n v w r d = dite (dec_le 1 b) (λ some. let up = d.rises b (r.1 some) in let other = d.other in omega arith) (λ none. let other = d.other in omega arith)

  pub tried_none : (v : View) → Steady l v → Tried l 0 v v
  tried_none v s = record { marks = []; walk = walked_none l v s; hand_is = refl; seen = refl }

  pub tried_few : (n m : ℕ) (v w : View) → n ≤ m → Tried l n v w → Tried l m v w
  tried_few n m v w le a = record { marks = a.marks; walk = walked_few l n m a.marks v w le a.walk; hand_is = a.hand_is; seen = a.seen }

  pub tried_then : (n m : ℕ) (v w y : View) → Tried l n v w → Tried l m w y → Tried l (n + m) v y
  tried_then n m v w y a b = record {
    marks = a.marks ++ b.marks;
    walk = walked_then l n m a.marks b.marks v w y a.walk b.walk;
    hand_is = b.hand_is ∙ ap (λ z. with_trace (hand y).trace z) a.hand_is;
    seen = b.seen ∙ a.seen;
  }

  pub drew_then : (n m k b : ℕ) (v w y : View) → n + m ≤ k → Tried l n v w → Drew l m b w y → Drew l k b v y
  drew_then n m k b v w y le a d = record {
    marks = a.marks ++ d.marks;
    walk = walked_few l (n + m) k (a.marks ++ d.marks) v y le (walked_then l n m a.marks d.marks v w y a.walk d.walk);
    hand_is = d.hand_is ∙ ap (λ z. with_trace (hand y).trace (with_block b (block_first l b) z)) a.hand_is;
    seen = d.seen ∙ a.seen;
  }
