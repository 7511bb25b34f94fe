-- What a pass has gained over some of a call's steps.
use Rattle.std.proofs.Common.{◌≡◌, ℕ, ◌+◌, ◌≤◌, List, [], ◌++◌, sym, ap, ◌∙◌, append_assoc, arith, subst, None}
use Rattle.std.specs.Prelude.{◌==◌, if◌then◌else◌}
use mathlib.Core.List.{IsPrefix}
use Rattle.tp_model.specs.declared.types.Limits.{Limits}
use Rattle.tp_model.specs.declared.event.Event.{Event}
use Rattle.tp_model.proofs.Bridges.{append_nil}
use Rattle.tp_rule.specs.Views.{SeatShown, hand, view_of}
use Rattle.tp_rule.specs.declared.view.Hand.{Hand}
use Rattle.tp_rule.specs.declared.view.View.{View}
use Rattle.tp_manager.specs.declared.manager.Run.{Run}
use Rattle.tp_manager.specs.Calls.{claims_in}
use Rattle.tp_manager.specs.CallSteps.{Gained, Looked}
use Rattle.tp_manager.specs.BetweenCalls.{Rests}
use Rattle.tp_manager.proofs.Calls.Passes.{claims_append, done_walked, drawn_later, steady_at, cleared_later}
use Rattle.tp_manager.proofs.Calls.CallSteps.{walked_begins, walked_few, walked_then}

module _ (l : Limits) where
  pub gained_looked : (n : ℕ) (v w : View) → Looked l n v w → Gained l n [] v w
  gained_looked n v w a = record {
    marks = a.marks;
    walk = a.walk;
    run = (ap (λ (z : Hand). z.next) a.kept, ap (λ (z : Hand). z.left) a.kept, ap (λ (z : Hand). z.blocks) a.kept, (ap (λ (z : Hand). z.passed_from) a.kept, ap (λ (z : Hand). z.passed_to) a.kept), (ap (λ (z : Hand). z.tail) a.kept, ap (λ (z : Hand). z.tail_stage) a.kept));
    claimed = ap (λ (z : Hand). z.claimed) a.kept;
    mine = ap (λ (z : Hand). z.mine) a.kept ∙ sym (append_nil (hand v).mine);
    drafts = λ e. ap (λ (z : Hand). z.drafts) a.kept ∙ e;
    body = ap (λ (z : Hand). z.next_body) a.kept;
    open_unit = λ e. ap (λ (z : Hand). z.open_unit) a.kept ∙ e;
  }

  pub gained_then : (n m : ℕ) (es fs : List Event) (v w y : View) → Gained l n es v w → Gained l m fs w y → Gained l (n + m) (es ++ fs) v y
  gained_then n m es fs v w y a b = record {
    marks = a.marks ++ b.marks;
    walk = walked_then l n m a.marks b.marks v w y a.walk b.walk;
    run = (b.run.0 ∙ a.run.0, b.run.1 ∙ a.run.1, b.run.2 ∙ a.run.2, (b.run.3.0 ∙ a.run.3.0, b.run.3.1 ∙ a.run.3.1), (b.run.4.0 ∙ a.run.4.0, b.run.4.1 ∙ a.run.4.1));
    claimed = b.claimed ∙ a.claimed;
    mine = b.mine ∙ (ap (λ z. z ++ fs) a.mine ∙ append_assoc (hand v).mine es fs);
    drafts = λ e. b.drafts (a.drafts e);
    body = b.body ∙ a.body;
    open_unit = λ e. b.open_unit (a.open_unit e);
  }

  pub gained_few : (n m : ℕ) (es : List Event) (v w : View) → n ≤ m → Gained l n es v w → Gained l m es v w
  gained_few n m es v w le a = record {
    marks = a.marks;
    walk = walked_few l n m a.marks v w le a.walk;
    run = a.run;
    claimed = a.claimed;
    mine = a.mine;
    drafts = a.drafts;
    body = a.body;
    open_unit = a.open_unit;
  }

  pub gained_begins : (n : ℕ) (es : List Event) (v w : View) → Gained l n es v w → IsPrefix v.seen w.seen
  gained_begins n es v w a = walked_begins l n a.marks v w a.walk

module _ (l : Limits) (seat next : SeatShown) (number : ℕ) (run : Run) (used : ℕ) (same : (view_of seat).limits ≡ l) (r : Rests seat number run used None) where
  pub rests_gained : (n : ℕ) (es : List Event) → Gained l n es (view_of seat) (view_of next) → claims_in es ≡ 0 → Rests next number run used None
  rests_gained n es a none = let lim : l ≡ (view_of next).limits = sym a.walk.steady.pass.1 in record {
    steady = steady_at l (view_of next).limits (view_of next) lim a.walk.steady;
    number_is = a.walk.number ∙ r.number_is;
    run_is = (a.run.0 ∙ r.run_is.0, a.run.1 ∙ r.run_is.1);
    tail = subst (λ (z : ℕ × ℕ). run.tail ≤ (if run.tail_stage == z.1 then z.0 else 0)) (λ i. (sym a.run.4.0 i, sym a.run.4.1 i)) r.tail;
    drawn = drawn_later (view_of seat) (view_of next) run.drawn (sym (same ∙ lim)) a.walk.knows r.drawn;
    done = done_walked l n a.marks (view_of seat) (view_of next) run.done same a.walk r.done;
    used_is = a.claimed ∙ r.used_is;
    used_below = subst (λ (z : Limits). used ≤ z.units) (same ∙ lim) r.used_below;
    claims = ap claims_in a.mine ∙ (claims_append (hand (view_of seat)).mine es ∙ (let k = r.claims in omega arith));
    no_drafts = a.drafts r.no_drafts;
    cleared = cleared_later (view_of seat) (view_of next) a.run.3 a.walk.knows r.cleared;
    blank = a.body ∙ r.blank;
    open_is = a.open_unit r.open_is;
    work = tt;
  }
