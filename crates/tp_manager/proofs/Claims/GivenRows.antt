-- A claim of a given element: the choice of a unit, and the look at one row.
use Rattle.std.proofs.Common.{◌≡◌, ◌≢◌, ℕ, ◌+◌, ◌<◌, ◌≤◌, Option, List, [], ◌∷◌, sym, ap, ◌∙◌, subst, inl, ⊎_elim, arith}
use mathlib.Core.List.{IsPrefix}
use Rattle.tp_model.specs.declared.types.Limits.{Limits}
use Rattle.tp_model.specs.declared.types.Status.TheVariants.{Held, Killed, Parked}
use Rattle.tp_model.specs.declared.event.Event.{Event}
use Rattle.tp_model.specs.declared.trace.StepKind.TheVariants as kinds
use Rattle.tp_model.specs.History.{there, status_of}
use Rattle.tp_model.specs.Passes.{opening_of}
use Rattle.tp_model.specs.Steps.{IsLegal}
use Rattle.tp_model.specs.Words.{ClaimWord, claim_word}
use Rattle.tp_rule.specs.Views.{SeatShown, hand, view_of}
use Rattle.tp_rule.specs.Steps.{Chooses, tail_before, with_spare}
use Rattle.tp_rule.specs.declared.view.Hand.{Hand}
use Rattle.tp_rule.specs.declared.view.View.{View}
use Rattle.tp_manager.specs.declared.manager.Run.{Run}
use Rattle.tp_manager.specs.declared.manager.Task.{Task}
use Rattle.tp_manager.specs.Shown.{Spot, PassShown, shown}
use Rattle.tp_manager.specs.Calls.{AtPoint, HasLooked, IsQuiet, IsWaiting, claims_in}
use Rattle.tp_manager.specs.Requeues.{IsBetween}
use Rattle.tp_manager.specs.CallSteps.{Acted, Looked, Steady, Stepped, with_trace}
use Rattle.tp_manager.specs.BetweenCalls.{Rests}
use Rattle.tp_manager.proofs.Claims.UnitsChosen.{choice, chose_walked}
use Rattle.tp_manager.proofs.Kills.Moves.{moved}
use Rattle.tp_manager.proofs.Calls.Passes.{done_walked, drawn_later, steady_at, task_later, cleared_later}
use Rattle.tp_manager.proofs.Calls.Points.{opening_any}
use Rattle.tp_manager.proofs.Calls.CallSteps.{acted_then, at_point, grew_hand, has_looked, opening_first, point_last, walked_begins, walked_then}
use Rattle.tp_model.proofs.Bridges.{begins_trans}

held_not : (u n : ℕ) → ¬ IsWaiting (Held u n)
held_not u n w = let e = w.1 in cc

killed_not : ¬ IsWaiting Killed
killed_not w = let e = w.1 in cc

parked_not : (n : ℕ) → ¬ IsWaiting (Parked n)
parked_not n w = let e = w.1 in cc

-- another claim than the one that was found: the element didn't wait in between
pub gone_waiting : (l : Limits) (i : ℕ) (a b : List Event) (w : ClaimWord) → IsLegal l b → IsPrefix a b → w ≡ claim_word a i → claim_word b i ≢ w → IsBetween a b (λ h. ¬ IsWaiting (status_of l.attempts h i))
gone_waiting l i a b w legal begins found differs = ⊎_elim (λ same. absurd (differs (same ∙ sym found))) (λ t. t) (moved l i IsWaiting held_not killed_not (inl parked_not) a b legal begins)

-- what is between two histories is between an earlier one and the second
pub between_from : (z a b : List Event) (Holds : List Event → Type 0) → IsPrefix z a → IsBetween a b Holds → IsBetween z b Holds
between_from z a b Holds begins t = (t.0, begins_trans z a t.0 begins t.1, t.2, t.3)

-- a pass that has not used all its units
pub some_unit : (l : Limits) (seat : SeatShown) (number : ℕ) (run : Run) (used : ℕ) (task : Option Task) (t : Spot) (old : PassShown) → (view_of seat).limits ≡ l → shown t (view_of seat) ≡ old → Rests seat number run used task → ¬ (used ≡ l.units) → claims_in old.mine < l.units
some_unit l seat number run used task t old same is r not =
    let count : claims_in (hand (view_of seat)).mine ≡ used = r.claims in
    let below : used ≤ l.units = subst (λ (z : Limits). used ≤ z.units) same r.used_below in
    let room : claims_in (hand (view_of seat)).mine < l.units = omega arith in
    subst (λ (p : PassShown). claims_in p.mine < l.units) is room

-- nothing was taken after the choice
module _ (l : Limits) (u n : ℕ) (v w y : View) (s : Steady l v) (g : Chooses v u w) (a : Acted l n w y) where
  left_hand : hand y ≡ with_trace (hand y).trace (with_spare u (hand v))
  left_hand = a.kept ∙ ap (with_trace (hand y).trace) (grew_hand l kinds.UnitChoice (with_spare u) [] v w s g)

  pub left_walked : Stepped l (1 + n) (choice l u v w s g ∷ a.marks) v y
  left_walked = walked_then l 1 n (choice l u v w s g ∷ []) a.marks v w y (chose_walked l u v w s g) a.walk

  module _ (t t' : Spot) (old : PassShown) (is : shown t v ≡ old) where
    pub left_quiet : IsQuiet old (shown t' y)
    left_quiet = record {
      mine = ap (λ (z : Hand). z.mine) left_hand ∙ ap (λ (p : PassShown). p.mine) is;
      open_unit = ap (λ (z : Hand). z.open_unit) left_hand ∙ ap (λ (p : PassShown). p.open_unit) is;
      run = (ap (λ (z : Hand). z.next) left_hand ∙ ap (λ (p : PassShown). p.next) is, ap (λ (z : Hand). z.left) left_hand ∙ ap (λ (p : PassShown). p.left) is, ap (λ (z : Hand). z.blocks) left_hand ∙ ap (λ (p : PassShown). p.blocks) is);
    }

    pub left_looked : HasLooked old (shown t' y)
    left_looked = has_looked t t' v y old is l (1 + n) (choice l u v w s g ∷ a.marks) left_walked (a.step.0, there a.step.1, a.step.2)

    pub left_point : (Holds : List Event → Type 0) (p : List Event) → IsPrefix (opening_of w.seen a.marks) p → IsPrefix p y.seen → Holds p → AtPoint old (shown t' y) Holds
    left_point Holds p low high holds = at_point t t' v y old is l (1 + n) (choice l u v w s g ∷ a.marks) left_walked Holds p
        (record { opened = subst (λ z. IsPrefix z p) (sym (opening_any v.seen w.seen a.marks a.step)) low; seen = high }) holds

    pub left_last : (Holds : List Event → Type 0) → Holds y.seen → AtPoint old (shown t' y) Holds
    left_last Holds holds = let last = point_last l n a.marks w y a.walk in left_point Holds y.seen last.opened last.seen holds

-- a point between two that a part of the call has seen, after one that looks
pub left_between : (l : Limits) (u n m : ℕ) (v w x y : View) (s : Steady l v) (g : Chooses v u w) (a : Acted l n w x) (b : Looked l m x y) (t t' : Spot) (old : PassShown) (is : shown t v ≡ old) (Holds : List Event → Type 0)
    → IsBetween x.seen y.seen Holds → AtPoint old (shown t' y) Holds
left_between l u n m v w x y s g a b t t' old is Holds p = left_point l u (n + m) v w y s g (acted_then l n m w x y a b) t t' old is Holds p.0
    (subst (λ z. IsPrefix z p.0) (sym (opening_first l n m w x y a b)) (begins_trans (opening_of w.seen a.marks) x.seen p.0 a.walk.closes p.1)) p.2 p.3

pub left_rests : (l : Limits) (u n number : ℕ) (run : Run) (used : ℕ) (task : Option Task) (seat next : SeatShown) (w : View) → (s : Steady l (view_of seat)) → Chooses (view_of seat) u w → Acted l n w (view_of next) → (view_of seat).limits ≡ l → Rests seat number run used task → Rests next number run used task
left_rests l u n number run used task seat next w s g a same r =
    let h = left_hand l u n (view_of seat) w (view_of next) s g a in let lim : l ≡ (view_of next).limits = sym a.walk.steady.pass.1 in let k = left_walked l u n (view_of seat) w (view_of next) s g a in record {
      steady = steady_at l (view_of next).limits (view_of next) lim a.walk.steady;
      number_is = ap (λ (z : Hand). z.number) h ∙ r.number_is;
      run_is = (ap (λ (z : Hand). z.next) h ∙ r.run_is.0, ap (λ (z : Hand). z.left) h ∙ r.run_is.1);
      tail = subst (λ (z : Hand). run.tail ≤ tail_before run.tail_stage z) (sym h) r.tail;
      drawn = drawn_later (view_of seat) (view_of next) run.drawn (sym (same ∙ lim)) k.knows r.drawn;
      done = done_walked l (1 + n) _ (view_of seat) (view_of next) run.done same k r.done;
      used_is = ap (λ (z : Hand). z.claimed) h ∙ r.used_is;
      used_below = subst (λ (z : Limits). used ≤ z.units) (same ∙ lim) r.used_below;
      claims = ap (λ (z : Hand). claims_in z.mine) h ∙ r.claims;
      no_drafts = ap (λ (z : Hand). z.drafts) h ∙ r.no_drafts;
      cleared = cleared_later (view_of seat) (view_of next) (ap (λ (z : Hand). z.passed_from) h, ap (λ (z : Hand). z.passed_to) h) k.knows r.cleared;
      blank = ap (λ (z : Hand). z.next_body) h ∙ r.blank;
      open_is = ap (λ (z : Hand). z.open_unit) h ∙ r.open_is;
      work = task_later (view_of seat).seen (view_of next).seen number task (walked_begins l (1 + n) _ _ _ k) r.work;
    }
